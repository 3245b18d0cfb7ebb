use Rattle.std.proofs.Common.{◌≡◌, ◌≤◌, length}
use Rattle.lucy_call_rows.proofs.threads.give_all.Given as goal

abbrev pub invariant-loop : goal.invariant-loop
invariant-loop g l = (l.giver.ring ≡ l.initial.giver.ring) × (length l.giver.given ≤ l.next)
