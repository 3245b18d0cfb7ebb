use Rattle.lucy_run.proofs.OwesLaws.{kahn_once}
use Rattle.lucy_run.proofs.laws.one_interpretation.Goals as goal

pub returns : goal.returns
returns c = kahn_once c.one_feed.ensures c.one_horizon.ensures
