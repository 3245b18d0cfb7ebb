use Rattle.std.proofs.Common.{refl}
use Rattle.lucy_ring.specs.Ring.{ring_of_taker}
use Rattle.lucy_ring.proofs.taker_end.TakerEnd.take_held.Goals as goal

pub returns-clause-ring : goal.returns-clause-ring
unfolding ring_of_taker
returns-clause-ring c = refl
