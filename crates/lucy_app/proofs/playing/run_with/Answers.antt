use Rattle.std.proofs.Common.{refl, ap, ◌∙◌}
use Rattle.lucy_app.specs.Engines.{whole_run}
use Rattle.lucy_app.proofs.Played.{plays_none, plays_short}
use Rattle.lucy_app.proofs.playing.run_with.Goals as goal

pub returns-in-Ok-clause-ends : goal.returns-in-Ok-clause-ends
returns-in-Ok-clause-ends g c =
    plays_none _ _ _ _ _ (c.in-None.ensures.is ∙ ap whole_run c.in-Ok.ensures.ok) refl refl refl c.tell.ensures.told

pub returns-clause-ends : goal.returns-clause-ends
returns-clause-ends g c = plays_short _ _ _ _ _ refl refl refl c.tell-in-Err.ensures.told
