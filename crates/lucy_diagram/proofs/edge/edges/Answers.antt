use Rattle.lucy_diagram.proofs.EdgeLaws.{edges_are}
use Rattle.lucy_diagram.proofs.edge.edges.Goals as goal

pub returns : goal.returns
returns c = edges_are c.args.node.now _ c.in_ok-edges.ensures
