use Rattle.std.proofs.Common.{◌≡◌, ◌++◌, drop, map}
use Rattle.lucy_naming.specs.Places.{stream_place}
use Rattle.lucy_naming.specs.Views.{known_of}
use Rattle.lucy_naming.proofs.nodes.results.Given as goal

abbrev pub invariant-each : goal.invariant-each
invariant-each l = l.found.items ++ map (λ r. stream_place (known_of l.names) r.text) (drop l.name-index l.list) ≡ map (λ r. stream_place (known_of l.names) r.text) l.list
