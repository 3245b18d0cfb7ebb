use Rattle.std.proofs.lemmas.Result.{IfErr-weaker}
use Rattle.lucy_program.specs.Accepting.{IsAccepted}
use Rattle.lucy_front.specs.Refusing.{Refuses}
use Rattle.lucy_front.proofs.TellableLaws.{tellable}
use Rattle.lucy_front.proofs.OneAnswer.{only_refusal}
use Rattle.lucy_front.proofs.OneAccepted.{accepted_kept, refused_alike}
use Rattle.lucy_front.proofs.accepting.accept.Goals as goal

pub returns-clause-accepted : goal.returns-clause-accepted
returns-clause-accepted c = λ a is. IfErr-weaker c.planned.result _ _ (λ e h. accepted_kept c.args.ops.now c.args.options.now c.args.text.now a e is h) c.planned.ensures.refused

pub returns-clause-rejected : goal.returns-clause-rejected
returns-clause-rejected c = λ r h some.
    only_refusal c.planned.result (IsAccepted c.args.ops.now c.args.options.now c.args.text.now) (Refuses c.args.ops.now c.args.options.now c.args.text.now) r some
    (λ a is. accepted_kept c.args.ops.now c.args.options.now c.args.text.now a r is h) (λ e k. refused_alike c.args.ops.now c.args.options.now c.args.text.now r e h k)
    c.planned.ensures.ok c.planned.ensures.refused

pub returns-clause-tellable : goal.returns-clause-tellable
returns-clause-tellable c = IfErr-weaker c.planned.result _ _ (λ e is. tellable c.args.ops.now c.args.options.now c.args.text.now e is) c.planned.ensures.refused
