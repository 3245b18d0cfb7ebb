use Rattle.lucy_rates.proofs.TreeRates.{tree_rate_law}
use Rattle.lucy_rates.proofs.laws.tree_rates.Goals as goal

pub returns : goal.returns
returns c = tree_rate_law
