use Rattle.std.proofs.Common.{◌≡◌, ◌+◌, ◌-◌, ◌≤◌, length, replicate, []}
use Rattle.lucy_types.proofs.graph.bare.Given as goal

abbrev pub invariant-each : goal.invariant-each
invariant-each l = (l.near.items ≡ replicate (length l.near.items) []) × (length l.near.items ≤ l.places + 1)

abbrev pub decreases-each : goal.decreases-each
decreases-each l = l.places + 1 - length l.near.items
