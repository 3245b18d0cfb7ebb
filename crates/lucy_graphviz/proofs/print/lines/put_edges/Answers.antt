use Rattle.lucy_picture.proofs.TextLaws.{element_more}
use Rattle.lucy_graphviz.specs.Graphs.{edge_text}
use Rattle.lucy_graphviz.proofs.print.lines.put_edges.Goals as goal

pub each-preserved : goal.each-preserved
each-preserved c =
    element_more (edge_text c.args.node.now c.args.labels.now) c.args.edges.now c.each.i c.edge_at-edge.result.now c.each.out.items _ _ c.edge_at-edge.ensures c.in_ok-put_edge.ensures c.each.invariant
