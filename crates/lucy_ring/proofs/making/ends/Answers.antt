use Rattle.std.proofs.Common.{rules, arith}
use Rattle.lucy_ring.specs.Ring.{ring_of_giver}
use Rattle.lucy_ring.proofs.Names.{one_name}
use Rattle.lucy_ring.proofs.making.ends.Goals as goal

pub returns-clause-slots : goal.returns-clause-slots
unfolding ring_of_giver
returns-clause-slots c = search rules

pub returns-clause-ends : goal.returns-clause-ends
returns-clause-ends c = grind (arith, one_name)
