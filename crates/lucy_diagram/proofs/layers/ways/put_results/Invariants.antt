use Rattle.std.proofs.Common.{◌≡◌, ◌-◌, ◌≤◌, ◌++◌, map}
use Rattle.std.specs.List.{range_with_len}
use Rattle.lucy_diagram.specs.Layers.{result_way}
use Rattle.lucy_diagram.proofs.layers.ways.put_results.Given as goal

abbrev pub invariant-each : goal.invariant-each
invariant-each l = record {
  ways : l.ways.items ≡ l.initial.ways.items ++ map (result_way l.call) (range_with_len 1 (l.number - 1));
  near : l.number - 1 ≤ l.call.results - 1;
}
