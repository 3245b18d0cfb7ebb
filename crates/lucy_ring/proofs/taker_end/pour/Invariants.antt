use Rattle.std.proofs.Common.{◌≡◌, ◌+◌, ◌≤◌, length, vec_len, vec_capacity, ◌++◌}
use Rattle.rtrb.specs.Ring.{received, known_items, SameConsumer}
use Rattle.lucy_ring.proofs.taker_end.pour.Given as goal

abbrev pub invariant-loop : goal.invariant-loop
invariant-loop l =
    SameConsumer l.initial.items l.items
    × (received l.items ++ known_items l.items ≡ received l.initial.items ++ known_items l.initial.items)
    × (l.side.items ++ known_items l.items ≡ l.initial.side.items ++ known_items l.initial.items)
    × (length (known_items l.items) + l.counter ≡ l.count)
    × (vec_len l.side ≡ vec_len l.initial.side + l.counter)
    × (vec_capacity l.initial.side ≤ vec_capacity l.side)
