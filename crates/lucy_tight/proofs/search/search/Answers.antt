use Rattle.std.proofs.Common.{◌+◌, ◌-◌, ◌/◌, ℕ, arith}
use Rattle.lucy_tight.proofs.SizeLaws.{none_less}
use Rattle.lucy_tight.proofs.search.search.Goals as goal

pub loop-low-preserved : goal.loop-low-preserved
loop-low-preserved c =
    let middle : ℕ = c.loop-low.low + (c.loop-low.high - c.loop-low.low) / 2 in
    let kept = c.loop-low.invariant in
    let open' = c.loop-low-test.true in
    let none = c.in_ok-has_solution.ensures.none c.if-branch.false in (
      omega arith,
      kept.1,
      kept.2,
      λ size less. none_less c.args.needs.now c.args.shape.now c.args.from c.args.to c.requires.words c.requires.shape c.requires.buffer middle size (omega arith) none,
    )

pub returns-clause-least : goal.returns-clause-least
returns-clause-least c =
    let kept = c.loop-low.invariant in
    let done = c.loop-low-test.false in
    record { solved = kept.2; none = λ size less. kept.3 size (omega arith) }
