use Rattle.std.proofs.Common.{rules}
use Rattle.lucy_ring.specs.Ring.{ring_of_giver, ring_of_taker}
use Rattle.lucy_ring.proofs.meeting.meet_ends.Goals as goal

pub returns-clause-within : goal.returns-clause-within
unfolding ring_of_taker
returns-clause-within c = search rules

pub returns-clause-all_slots : goal.returns-clause-all_slots
unfolding ring_of_giver
returns-clause-all_slots c = search rules

pub returns-clause-capacity : goal.returns-clause-capacity
unfolding ring_of_giver
returns-clause-capacity c = search rules
