use Rattle.std.proofs.Common.{◌≡◌, ◌+◌, ◌++◌, drop}
use Rattle.lucy_diagram.specs.Drawn.{edges_from, node_edges}
use Rattle.lucy_diagram.proofs.edge.edge_list.Given as goal

abbrev pub invariant-each : goal.invariant-each
invariant-each l = l.edges.items ++ edges_from l.node (l.i + 1) (drop l.i l.entry-items) ≡ node_edges l.node
