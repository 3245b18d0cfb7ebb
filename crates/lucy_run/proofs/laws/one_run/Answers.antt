use Rattle.lucy_run.proofs.OwesLaws.{run_once}
use Rattle.lucy_run.proofs.laws.one_run.Goals as goal

pub returns : goal.returns
returns c = run_once c.one_feed.ensures c.one_horizon.ensures
