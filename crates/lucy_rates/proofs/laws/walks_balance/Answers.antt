use Rattle.lucy_rates.proofs.Balancing.{walks_balance}
use Rattle.lucy_rates.proofs.laws.walks_balance.Goals as goal

pub returns : goal.returns
returns c = walks_balance
