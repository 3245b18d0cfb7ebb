use Rattle.lucy_rates.proofs.Carrying.{carries_law}
use Rattle.lucy_rates.proofs.shape_laws.shape_carries.Goals as goal

pub returns : goal.returns
returns c = carries_law
