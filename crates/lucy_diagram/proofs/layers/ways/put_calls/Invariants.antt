use Rattle.std.proofs.Common.{◌≡◌, ◌++◌, drop}
use Rattle.std.specs.Prelude.{flat_map}
use Rattle.lucy_diagram.specs.Layers.{result_ways}
use Rattle.lucy_diagram.proofs.layers.ways.put_calls.Given as goal

abbrev pub invariant-each : goal.invariant-each
invariant-each l = l.ways.items ++ flat_map result_ways (drop l.i l.calls) ≡ l.initial.ways.items ++ flat_map result_ways l.calls
