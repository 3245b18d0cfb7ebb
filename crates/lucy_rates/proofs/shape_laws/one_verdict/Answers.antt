use Rattle.lucy_rates.proofs.OneShape.{shape_or_none, one_limit, limit_or_walk}
use Rattle.lucy_rates.proofs.shape_laws.one_verdict.Goals as goal

pub returns : goal.returns
returns c = record { shape = shape_or_none; limit = one_limit; walk = limit_or_walk }
