use Rattle.std.proofs.Common.{◌≡◌, ◌+◌, ◌≤◌, ◌++◌, drop, length}
use Rattle.lucy_wave.specs.Waves.{inner_places}
use Rattle.lucy_wave.proofs.gathering.inner_places.Given as goal

abbrev pub invariant-each : goal.invariant-each
invariant-each l =
    (l.places.items ++ inner_places l.node (1 + l.i) (drop l.i l.node.places) ≡ inner_places l.node 1 l.node.places)
    × (length l.places.items ≤ l.i)
