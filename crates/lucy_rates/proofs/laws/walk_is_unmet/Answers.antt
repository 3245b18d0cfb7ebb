use Rattle.lucy_rates.proofs.Unmet.{unmet_law}
use Rattle.lucy_rates.proofs.laws.walk_is_unmet.Goals as goal

pub returns : goal.returns
returns c = unmet_law
