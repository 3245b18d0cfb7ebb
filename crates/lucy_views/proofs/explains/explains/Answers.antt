use Rattle.std.proofs.Common.{Ok, refl, inr}
use Rattle.lucy_asking.specs.declared.ask.Picture.TheVariants as picture
use Rattle.lucy_views.specs.Owes.{OwesPicture}
use Rattle.lucy_views.specs.Failures.{unread}
use Rattle.lucy_views.proofs.Outs.{short_out}
use Rattle.lucy_views.proofs.explains.explains.Goals as goal

pub returns-in_err-explained-clause-outcome : goal.returns-in_err-explained-clause-outcome
returns-in_err-explained-clause-outcome c =
    short_out (OwesPicture (picture.Explain c.args.words) (unread c.args.ops.now (Ok c.args.text.now))) c.from_residual.result
    c.in_err-explained.field-0.0 c.from_residual.ensures.1 c.in_err-explained.ensures.short

pub returns-clause-outcome : goal.returns-clause-outcome
returns-clause-outcome c = inr (c.in_ok-explained.explained.text.items, (c.in_ok-explained.explained.refusal, c.in_ok-explained.ensures.ok), refl)
