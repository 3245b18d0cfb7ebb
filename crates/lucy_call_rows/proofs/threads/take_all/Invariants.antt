use Rattle.std.proofs.Common.{◌≡◌, ◌≤◌, length}
use Rattle.lucy_call_rows.proofs.threads.take_all.Given as goal

abbrev pub invariant-loop : goal.invariant-loop
invariant-loop g l = (l.taker.ring ≡ l.initial.taker.ring) × (length l.taker.taken ≤ l.next)
