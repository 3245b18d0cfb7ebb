use Rattle.std.proofs.Common.{Option, Some, None, length}
use Rattle.std.specs.Prelude.{IfNone}
use Rattle.std.proofs.lemmas.Result.{IfOk-weaker}
use Rattle.lucy_explain.proofs.explaining.explain.Goals as goal

if_none : {X : Type 0} (o : Option X) (A : Type 0) → A → IfNone o A
if_none None A a = a
if_none (Some x) A a = tt

pub returns-in-Ok-clause-accepted : goal.returns-in-Ok-clause-accepted
returns-in-Ok-clause-accepted c = IfOk-weaker c.accepted.result _ _ (λ e h. if_none e.refusal _ (c.in-Ok.program, c.in-Ok.ensures.ok)) c.accepted.ensures.none

pub returns-in-Ok-clause-spans : goal.returns-in-Ok-clause-spans
returns-in-Ok-clause-spans c = IfOk-weaker c.accepted.result _ _ (λ e h. h (length c.args.text.now)) c.accepted.ensures.spans
