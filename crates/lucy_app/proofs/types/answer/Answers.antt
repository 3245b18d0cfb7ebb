use Rattle.lucy_front.specs.Refusing.{RefusesText}
use Rattle.lucy_app.specs.Types.{IsReportOf}
use Rattle.lucy_app.proofs.Outcomes.{program_outcome}
use Rattle.lucy_app.proofs.types.answer.Goals as goal

pub returns-clause-outcome : goal.returns-clause-outcome
returns-clause-outcome c =
    program_outcome (IsReportOf c.args.ops.now) (RefusesText c.args.ops.now) _ _ _ c.in_ok-text.was (rw c.deref.ensures.value at c.report_of.ensures.ok) (rw c.deref.ensures.value at c.report_of.ensures.refused)
