use Rattle.std.proofs.Common.{◌≡◌, List, true, length, sym, ap, ◌∙◌, subst, arith}
use Rattle.std.proofs.lemmas.Bool.{false≢true}
use Rattle.lucy_shape.specs.declared.shape.ClockShape.{ClockShape}
use Rattle.lucy_shape.specs.Fitting.{clock_at}
use Rattle.lucy_shape.specs.Marking.{IsSolved}
use Rattle.lucy_shape.specs.Writing.{IsWrittenLong}
use Rattle.lucy_shape.proofs.Completing.{none_long_more}
use Rattle.lucy_shape.proofs.Writings.{clock_solved}
use Rattle.lucy_shape.proofs.words.limit_of.Goals as goal
use Rattle.lucy_shape.proofs.words.limit_of.Goals.{else-clock-via-then-clock+else-is_long, else-clock-via-else-clock}

pub is_long-requires : goal.is_long-requires
is_long-requires c =
    let i = c.loop-clock.clock-index in
    let P : List ClockShape → Type 0 = λ l. IsSolved c.args.shape.now.period (clock_at l i) c.args.positions.now in
    let U : List ClockShape → Type 0 = λ l. (clock_at l i).used ≡ true in
    let t = c.loop-clock-test.true in
    let e = ap length c.list-clock-items.ensures in
    subst P (sym c.list-clock-items.ensures) (clock_solved c.args.shape.now c.args.positions.now c.requires.laid c.requires.solves i (omega arith, subst U c.list-clock-items.ensures c.if-clock.true))

pub loop-clock-preserved : goal.loop-clock-preserved
loop-clock-preserved c =
    let i = c.loop-clock.clock-index in
    let U : List ClockShape → Type 0 = λ l. (clock_at l i).used ≡ true in
    let Q : List ClockShape → Type 0 = λ l. IsWrittenLong c.args.shape.now.period (clock_at l i) c.args.positions.now in
    none_long_more c.args.shape.now c.args.positions.now i c.loop-clock.invariant (λ used long.
    elim c.else-clock.branch [
      | else-clock-via-then-clock+else-is_long w ↦ false≢true (sym w.if-is_long.false ∙ w.is_long.ensures.1 (subst Q (sym c.list-clock-items.ensures) long))
      | else-clock-via-else-clock w ↦ false≢true (sym w.if-clock.false ∙ subst U (sym c.list-clock-items.ensures) used)
    ])
