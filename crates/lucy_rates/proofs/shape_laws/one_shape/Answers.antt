use Rattle.lucy_rates.proofs.OneShape.{one_wide_shape, one_shape}
use Rattle.lucy_rates.proofs.shape_laws.one_shape.Goals as goal

pub returns : goal.returns
returns c = record { wide = one_wide_shape; shape = one_shape }
