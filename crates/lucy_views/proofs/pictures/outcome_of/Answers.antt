use Rattle.std.proofs.Common.{refl, sym, subst}
use Rattle.lucy_views.specs.Failures.{Tellable}
use Rattle.lucy_views.proofs.Told.{fetch_tellable}
use Rattle.lucy_views.proofs.PictureLaws.{unfetched_out, fetched_out}
use Rattle.lucy_views.proofs.pictures.outcome_of.Goals as goal

pub returns-in-Err-clause-outcome : goal.returns-in-Err-clause-outcome
returns-in-Err-clause-outcome c = unfetched_out c.args.ops.now c.args.picture c.args.fetched c.in-Err.error _ _ c.in-Err.is refl c.from.ensures

pub returns-in-Err-clause-told : goal.returns-in-Err-clause-told
returns-in-Err-clause-told c = subst Tellable (sym c.from.ensures) (fetch_tellable c.in-Err.error)

pub returns-clause-outcome : goal.returns-clause-outcome
returns-clause-outcome c = fetched_out c.args.ops.now c.args.picture c.args.fetched c.in-Ok.text _ _ c.in-Ok.is c.deref.ensures.value c.shown.ensures.outcome
