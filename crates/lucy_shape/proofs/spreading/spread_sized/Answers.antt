use Rattle.std.proofs.Common.{List, ℕ, length, inl, inr, refl, sym, ap, subst, arith}
use Rattle.std.proofs.lemmas.Bool.{cases_lt}
use Rattle.lucy_need.specs.Meeting.{alone}
use Rattle.lucy_need.specs.declared.need.Need.TheVariants.{Adapt}
use Rattle.lucy_solve.specs.System.{DifferenceSystem, IsGrounded, Solves, most_inequalities}
use Rattle.lucy_shape.specs.declared.shape.ClockShape.{ClockShape}
use Rattle.lucy_shape.specs.Added.{IsNeedSpreadable}
use Rattle.lucy_shape.specs.Fitting.{variable_count}
use Rattle.lucy_shape.specs.Sized.{sized_inequalities}
use Rattle.lucy_shape.proofs.Reaches.{need_wide}
use Rattle.lucy_shape.proofs.SizeLaws.{sized_law, sized_count, sized_is, sized_ready, fits_within, spreads_at, solves_table}
use Rattle.lucy_shape.proofs.Systems.{solves_front}
use Rattle.lucy_shape.proofs.spreading.spread_sized.Goals as goal

pub rows_of_size-requires : goal.rows_of_size-requires
rows_of_size-requires c =
    let shape = c.args.shape.now in
    let need = Adapt (alone c.args.from) (alone c.args.to) in
    let ready = need_wide (variable_count shape.clocks) shape.clocks need c.requires.shape.laid.few (spreads_at c.args.needs.now shape need c.requires.shape c.needs_have_words.ensures c.requires.buffer) in
    subst (λ (clocks : List ClockShape). IsNeedSpreadable 65537 clocks need) (sym c.list-clocks.ensures) ready

pub add_size-requires-clause-ready : goal.add_size-requires-clause-ready
add_size-requires-clause-ready c =
    let shape = c.args.shape.now in
    let need = Adapt (alone c.args.from) (alone c.args.to) in
    let ready = spreads_at c.args.needs.now shape need c.requires.shape c.needs_have_words.ensures c.requires.buffer in
    let count = ap (λ (s : DifferenceSystem). s.count) c.in_ok-diffs.ensures.list in
    subst (λ (n : ℕ). IsNeedSpreadable n c.list-clocks.result.now need) (sym count) (subst (λ (clocks : List ClockShape). IsNeedSpreadable (variable_count shape.clocks) clocks need) (sym c.list-clocks.ensures) ready)

pub returns-then-not-are_few-clause-limit : goal.returns-then-not-are_few-clause-limit
returns-then-not-are_few-clause-limit c = λ many. refl

pub returns-then-not-are_few-clause-refused : goal.returns-then-not-are_few-clause-refused
returns-then-not-are_few-clause-refused c =
    let n = sized_count c.args.needs.now c.args.shape.now c.args.from c.args.to c.args.size _ _ c.list-clocks.ensures (c.rows_of_size.ensures.count c.args.shape.now.period c.args.size) in
    inr (
      refl,
      elim (cases_lt most_inequalities (length (sized_inequalities c.args.needs.now c.args.shape.now c.args.from c.args.to c.args.size))) [
        | inl many ↦ many
        | inr few ↦ absurd (let is = c.are_few.ensures.1 (omega arith) in let not' = c.if-not-are_few.true in cc)
      ],
    )

pub fill-requires-clause-few : goal.fill-requires-clause-few
fill-requires-clause-few c = let few = c.are_few.ensures.0 c.if-not-are_few.false in omega arith

pub returns-in_err-diffs-clause-limit : goal.returns-in_err-diffs-clause-limit
returns-in_err-diffs-clause-limit c = λ many.
    let n = sized_count c.args.needs.now c.args.shape.now c.args.from c.args.to c.args.size _ _ c.list-clocks.ensures (c.rows_of_size.ensures.count c.args.shape.now.period c.args.size) in
    let few = c.are_few.ensures.0 c.if-not-are_few.false in
    absurd (omega arith)

pub returns-in_err-add_size-clause-limit : goal.returns-in_err-add_size-clause-limit
returns-in_err-add_size-clause-limit c = λ many.
    let n = sized_count c.args.needs.now c.args.shape.now c.args.from c.args.to c.args.size _ _ c.list-clocks.ensures (c.rows_of_size.ensures.count c.args.shape.now.period c.args.size) in
    let few = c.are_few.ensures.0 c.if-not-are_few.false in
    absurd (omega arith)

pub returns-clause-list : goal.returns-clause-list
returns-clause-list c =
    sized_is c.args.needs.now c.args.shape.now c.args.from c.args.to c.args.size c.list-clocks.result.now c.in_ok-diffs.diffs c.add_size.new.diffs c.list-clocks.ensures c.in_ok-diffs.ensures.list c.in_ok-add_size.ensures.ok

pub returns-clause-limit : goal.returns-clause-limit
returns-clause-limit c = λ many.
    let n = sized_count c.args.needs.now c.args.shape.now c.args.from c.args.to c.args.size _ _ c.list-clocks.ensures (c.rows_of_size.ensures.count c.args.shape.now.period c.args.size) in
    let few = c.are_few.ensures.0 c.if-not-are_few.false in
    absurd (omega arith)

pub returns-clause-ready : goal.returns-clause-ready
returns-clause-ready c =
    let needs = c.args.needs.now in
    let shape = c.args.shape.now in
    let e = sized_is needs shape c.args.from c.args.to c.args.size c.list-clocks.result.now c.in_ok-diffs.diffs c.add_size.new.diffs c.list-clocks.ensures c.in_ok-diffs.ensures.list c.in_ok-add_size.ensures.ok in
    let n = sized_count c.args.needs.now c.args.shape.now c.args.from c.args.to c.args.size _ _ c.list-clocks.ensures (c.rows_of_size.ensures.count c.args.shape.now.period c.args.size) in
    let few = c.are_few.ensures.0 c.if-not-are_few.false in
    subst IsGrounded (sym e) (sized_ready needs shape c.args.from c.args.to c.args.size c.requires.shape (omega arith))

pub returns-clause-exact : goal.returns-clause-exact
returns-clause-exact c w xs fitting are =
    let needs = c.args.needs.now in
    let e = sized_is needs c.args.shape.now c.args.from c.args.to c.args.size c.list-clocks.result.now c.in_ok-diffs.diffs c.add_size.new.diffs c.list-clocks.ensures c.in_ok-diffs.ensures.list c.in_ok-add_size.ensures.ok in
    let law = sized_law needs c.args.shape.now w xs c.args.from c.args.to c.args.size c.needs_have_words.ensures c.requires.shape fitting are c.requires.buffer in
    (λ met. subst (λ (s : DifferenceSystem). Solves s xs) (sym e) (law.0 met), λ solves. law.1 (subst (λ (s : DifferenceSystem). Solves s xs) e solves))

pub returns-clause-fitting : goal.returns-clause-fitting
returns-clause-fitting c xs solves =
    let needs = c.args.needs.now in
    let e = sized_is needs c.args.shape.now c.args.from c.args.to c.args.size c.list-clocks.result.now c.in_ok-diffs.diffs c.add_size.new.diffs c.list-clocks.ensures c.in_ok-diffs.ensures.list c.in_ok-add_size.ensures.ok in
    fits_within needs c.args.shape.now xs c.args.from c.args.to c.args.size c.needs_have_words.ensures c.requires.shape c.requires.buffer (subst (λ (s : DifferenceSystem). Solves s xs) e solves)

pub returns-clause-solved : goal.returns-clause-solved
returns-clause-solved c xs solves =
    let needs = c.args.needs.now in
    let e = sized_is needs c.args.shape.now c.args.from c.args.to c.args.size c.list-clocks.result.now c.in_ok-diffs.diffs c.add_size.new.diffs c.list-clocks.ensures c.in_ok-diffs.ensures.list c.in_ok-add_size.ensures.ok in
    solves_front needs c.args.shape.now xs (solves_table needs c.args.shape.now xs c.args.from c.args.to c.args.size (subst (λ (s : DifferenceSystem). Solves s xs) e solves))
