use Rattle.std.proofs.Common.{sym, subst}
use Rattle.lucy_program.specs.Accepting.{IsAccepted}
use Rattle.lucy_front.specs.Refusing.{Refuses}
use Rattle.lucy_front.proofs.TellableLaws.{tellable}
use Rattle.lucy_app.specs.Check.{RefusesCheck}
use Rattle.lucy_views.specs.Meets.{options_of}
use Rattle.lucy_views.specs.Failures.{RefusesProgram}
use Rattle.lucy_views.proofs.Told.{check_told, program_tellable}
use Rattle.lucy_views.proofs.program.accepted.Goals as goal

pub returns-in-Ok-clause-ok : goal.returns-in-Ok-clause-ok
returns-in-Ok-clause-ok c =
    subst (λ o. IsAccepted c.args.ops.now o c.args.text.now c.in-Ok.accepted) c.options.ensures.is c.in-Ok.ensures.ok

pub returns-in-Err-clause-refused : goal.returns-in-Err-clause-refused
returns-in-Err-clause-refused c =
    let o = options_of c.args.words in
    let why = subst (λ x. Refuses c.args.ops.now x c.args.text.now c.in-Err.reason) c.options.ensures.is c.in-Err.ensures.refused in
    subst (RefusesProgram (RefusesCheck c.args.ops.now o c.args.text.now)) (sym c.from.ensures) (check_told c.args.ops.now o c.args.text.now c.in-Err.reason why)

pub returns-in-Err-clause-told : goal.returns-in-Err-clause-told
returns-in-Err-clause-told c =
    program_tellable c.in-Err.reason _ c.from.ensures (tellable c.args.ops.now c.options.result c.args.text.now c.in-Err.reason c.in-Err.ensures.refused)
