use Rattle.std.proofs.Common.{◌≡◌, ◌+◌, ◌-◌, ◌++◌}
use Rattle.std.specs.Prelude.{flat_map}
use Rattle.std.specs.List.{range_with_len}
use Rattle.lucy_tree.specs.View.{program_tree}
use Rattle.lucy_graphviz.specs.Graphs.{result_text}
use Rattle.lucy_graphviz.proofs.print.calls.put_results.Given as goal

abbrev pub invariant-each : goal.invariant-each
invariant-each l =
    let text = result_text (program_tree l.program) l.accepted l.node l.found l.call.number in
    l.out.items ++ flat_map text (range_with_len l.place (l.call.first + l.call.results - l.place))
    ≡ l.initial.out.items ++ flat_map text (range_with_len l.call.first l.call.results)
