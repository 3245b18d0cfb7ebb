use Rattle.std.proofs.Common.{◌≡◌, ◌++◌, drop}
use Rattle.std.specs.Prelude.{flat_map}
use Rattle.lucy_tree.specs.View.{program_tree}
use Rattle.lucy_graphviz.specs.Graphs.{call_text}
use Rattle.lucy_graphviz.proofs.print.calls.put_calls.Given as goal

abbrev pub invariant-each : goal.invariant-each
invariant-each l =
    let text = call_text (program_tree l.program) l.accepted l.node l.found l.labels in
    l.out.items ++ flat_map text (drop l.i l.calls) ≡ l.initial.out.items ++ flat_map text l.calls
