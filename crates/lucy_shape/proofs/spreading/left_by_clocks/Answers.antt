use Rattle.std.proofs.Common.{◌≡◌, ◌+◌, ℕ, List, eqb, length, ap, ◌∙◌, arith}
use Rattle.lucy_solve.specs.declared.diffs.Diff.{Diff}
use Rattle.lucy_shape.specs.declared.shape.ClockShape.{ClockShape}
use Rattle.lucy_shape.specs.declared.shape.Shape.{Shape}
use Rattle.lucy_shape.specs.Fitting.{clock_at}
use Rattle.lucy_shape.specs.Inequalities.{clock_rows}
use Rattle.lucy_shape.proofs.Adding.{flat_less, length_more}
use Rattle.lucy_shape.proofs.spreading.left_by_clocks.Goals as goal

abbrev rows : Shape → ℕ → List Diff
rows shape c = clock_rows shape.period (eqb c 0) (clock_at shape.clocks c)

same : (shape : Shape) (list : List ClockShape) (i : ℕ) → list ≡ shape.clocks → length (clock_rows shape.period (eqb i 0) (clock_at list i)) ≡ length (rows shape (0 + i))
same shape list i e = ap (λ l. length (clock_rows shape.period (eqb i 0) (clock_at l i))) e ∙ ap (λ k. length (rows shape k)) (let z : i ≡ 0 + i = omega arith in z)

pub returns-then-rows-left-clause-none : goal.returns-then-rows-left-clause-none
returns-then-rows-left-clause-none c none =
    let shape = c.args.shape.now in
    let i = c.loop-c.c in
    let len = ap length c.list-clocks.ensures in
    let t = c.loop-c-test.true in
    let size = c.rows_of_clock-rows.ensures shape.period ∙ same shape c.list-clocks.result.now i c.list-clocks.ensures in
    let all = flat_less (rows shape) 0 (length shape.clocks) i (omega arith) in
    let kept = c.loop-c.invariant in
    let more = c.if-rows-left.true in
    omega arith

pub loop-c-preserved : goal.loop-c-preserved
loop-c-preserved c =
    let shape = c.args.shape.now in
    let i = c.loop-c.c in
    let size = c.rows_of_clock-rows.ensures shape.period ∙ same shape c.list-clocks.result.now i c.list-clocks.ensures in
    let kept = c.loop-c.invariant in
    let fits = c.if-rows-left.false in
    omega (arith, length_more (rows shape) 0 i)
