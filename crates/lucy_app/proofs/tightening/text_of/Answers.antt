use Rattle.std.proofs.Common.{refl}
use Rattle.std.proofs.lemmas.Result.{IfOk-at_ok, IfErr-at_err}
use Rattle.lucy_program.specs.Accepting.{IsAccepted}
use Rattle.lucy_front.specs.Refusing.{Refuses}
use Rattle.lucy_app.proofs.TightOut.{accepted_out, refused_out}
use Rattle.lucy_app.proofs.tightening.text_of.Goals as goal

pub returns-in-Err-clause-outcome : goal.returns-in-Err-clause-outcome
returns-in-Err-clause-outcome c =
    refused_out c.args.ops.now c.args.options.now c.args.name.now c.args.buffer c.args.text.now c.in-Err.reason _ _
    (IfErr-at_err (Refuses c.args.ops.now c.args.options.now c.args.text.now) c.in-Err.is c.accept.ensures.refused) refl c.from.ensures

pub returns-clause-outcome : goal.returns-clause-outcome
returns-clause-outcome c =
    accepted_out c.args.ops.now c.args.options.now c.args.name.now c.args.buffer c.args.text.now c.in-Ok.accepted _
    (IfOk-at_ok (IsAccepted c.args.ops.now c.args.options.now c.args.text.now) c.in-Ok.is c.accept.ensures.ok) c.buffer_of.ensures.outcome
