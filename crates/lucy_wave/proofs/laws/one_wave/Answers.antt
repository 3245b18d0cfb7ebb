use Rattle.lucy_wave.proofs.BackLaws.{wave_once}
use Rattle.lucy_wave.proofs.laws.one_wave.Goals as goal

pub returns : goal.returns
returns c = wave_once c.one_feed.ensures c.one_horizon.ensures
