use Rattle.std.proofs.Common.{◌≡◌, ◌+◌, ◌++◌, drop}
use Rattle.lucy_place.specs.Standing.{buffer_places}
use Rattle.lucy_naming.proofs.nodes.buffers.Given as goal

abbrev pub invariant-each : goal.invariant-each
invariant-each l = l.found.items ++ buffer_places (l.i + 1) (drop l.i l.places) ≡ buffer_places 1 l.places
