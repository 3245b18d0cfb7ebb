use Rattle.std.proofs.Common.{◌≡◌, ◌+◌, length, ◌++◌}
use Rattle.rtrb.specs.Ring.{received, known_items, SameConsumer}
use Rattle.lucy_ring.proofs.giver_end.discard.Given as goal

abbrev pub invariant-loop : goal.invariant-loop
invariant-loop l =
    SameConsumer l.initial.numbers l.numbers
    × (received l.numbers ++ known_items l.numbers ≡ received l.initial.numbers ++ known_items l.initial.numbers)
    × (length (known_items l.numbers) + l.counter ≡ l.count)
