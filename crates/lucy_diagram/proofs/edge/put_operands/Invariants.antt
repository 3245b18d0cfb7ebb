use Rattle.std.proofs.Common.{◌≡◌, ◌++◌, drop}
use Rattle.lucy_diagram.specs.Drawn.{edges_at}
use Rattle.lucy_diagram.proofs.edge.put_operands.Given as goal

abbrev pub invariant-each : goal.invariant-each
invariant-each l = l.edges.items ++ edges_at l.late l.to l.seat (drop l.seat l.operands) ≡ l.initial.edges.items ++ edges_at l.late l.to 0 l.operands
