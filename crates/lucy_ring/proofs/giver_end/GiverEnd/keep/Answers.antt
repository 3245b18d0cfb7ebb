use Rattle.std.proofs.Common.{refl}
use Rattle.lucy_ring.specs.Ring.{ring_of_giver}
use Rattle.lucy_ring.proofs.giver_end.GiverEnd.keep.Goals as goal

pub returns-clause-ring : goal.returns-clause-ring
unfolding ring_of_giver
returns-clause-ring c = refl
