use Rattle.std.proofs.Common.{◌≡◌, ◌++◌, drop}
use Rattle.std.specs.Prelude.{flat_map}
use Rattle.lucy_diagram.specs.Layers.{read_ways}
use Rattle.lucy_diagram.proofs.layers.ways.put_reads.Given as goal

abbrev pub invariant-each : goal.invariant-each
invariant-each l = l.ways.items ++ flat_map read_ways (drop l.i l.edges) ≡ l.initial.ways.items ++ flat_map read_ways l.edges
