use Rattle.std.proofs.lemmas.Result.{IfErr-weaker}
use Rattle.lucy_app.specs.Check.{IsCheckOf, RefusesCheck}
use Rattle.lucy_app.specs.Outcomes.{RefusesProgram, Tellable}
use Rattle.lucy_app.proofs.Outcomes.{program_outcome}
use Rattle.lucy_app.proofs.Told.{check_tellable}
use Rattle.lucy_app.proofs.check.answer.Goals as goal

pub returns-clause-outcome : goal.returns-clause-outcome
returns-clause-outcome c =
    program_outcome (IsCheckOf c.args.ops.now c.args.options.now) (RefusesCheck c.args.ops.now c.args.options.now) _ _ _ c.in_ok-text.was (rw c.deref.ensures.value at c.report_of.ensures.ok) (rw c.deref.ensures.value at c.report_of.ensures.refused)

pub returns-clause-tellable : goal.returns-clause-tellable
returns-clause-tellable c = IfErr-weaker c.report_of.result (RefusesProgram (RefusesCheck c.args.ops.now c.args.options.now c.deref.result.now)) Tellable (λ e why. check_tellable c.args.ops.now c.args.options.now c.deref.result.now e why) c.report_of.ensures.refused
