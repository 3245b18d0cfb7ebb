use Rattle.std.proofs.Common.{◌∙◌, List, length, ap}
use Rattle.lucy_solve.specs.declared.diffs.Diff.{Diff}
use Rattle.lucy_solve.specs.Search.{position_at}
use Rattle.lucy_solve.proofs.Passes.{passed_none, passed_step}
use Rattle.lucy_solve.proofs.pass.pass.Goals as goal
use Rattle.lucy_solve.proofs.pass.pass.Goals.{then-lift, else-lift}

pub loop-steps-init : goal.loop-steps-init
loop-steps-init c = (c.requires.reached, passed_none _ _ _ c.requires.within)

pub loop-steps-preserved : goal.loop-steps-preserved
loop-steps-preserved c =
    let here = c.position_at-position.ensures.is ∙ ap (λ (l : List Diff). position_at (length l) c.args.backwards c.loop-steps.steps) c.list-len.ensures.list in (
      c.lift.ensures.reached,
      elim c.if-lift.branch [
        | then-lift w ↦ let k = w.if-lift.true in passed_step _ _ _ _ _ _ _ _ _ _ c.loop-steps.invariant.1 c.lift.ensures.raised here (λ e. w.moved-is) (λ e. (cc))
        | else-lift w ↦ let k = w.if-lift.false in passed_step _ _ _ _ _ _ _ _ _ _ c.loop-steps.invariant.1 c.lift.ensures.raised here (λ e. (cc)) (λ e. w.moved-is)
      ],
    )
