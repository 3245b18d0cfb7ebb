use Rattle.std.proofs.Common.{◌≡◌, ◌≤◌, length}
use Rattle.lucy_call_rows.proofs.rings.show.Given as goal

abbrev pub invariant-loop : goal.invariant-loop
invariant-loop g l =
    (l.giver.ring ≡ l.taker.ring) × (length l.giver.given ≤ l.counter) × (length l.taker.taken ≤ l.counter)
