use Rattle.lucy_run.proofs.ReplayLaws.{replay_once}
use Rattle.lucy_run.proofs.laws.one_replay.Goals as goal

pub returns : goal.returns
returns c = replay_once c.one_feed.ensures c.one_horizon.ensures
