use Rattle.std.proofs.Common.{ℕ, ◌≡◌, Some, map, take}
use Rattle.lucy_diagram.proofs.layers.all_of.Given as goal

abbrev pub invariant-each : goal.invariant-each
invariant-each l = map (λ (k : ℕ). Some k) l.layers.items ≡ take l.place l.found
