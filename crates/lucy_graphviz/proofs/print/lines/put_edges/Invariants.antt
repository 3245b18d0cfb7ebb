use Rattle.std.proofs.Common.{◌≡◌, ◌++◌, drop}
use Rattle.std.specs.Prelude.{flat_map}
use Rattle.lucy_graphviz.specs.Graphs.{edge_text}
use Rattle.lucy_graphviz.proofs.print.lines.put_edges.Given as goal

abbrev pub invariant-each : goal.invariant-each
invariant-each l =
    let text = edge_text l.node l.labels in
    l.out.items ++ flat_map text (drop l.i l.edges) ≡ l.initial.out.items ++ flat_map text l.edges
