use Rattle.lucy_rates.proofs.OneWay.{one_walk_law}
use Rattle.lucy_rates.proofs.laws.one_unequal_walk.Goals as goal

pub returns : goal.returns
returns c = one_walk_law
