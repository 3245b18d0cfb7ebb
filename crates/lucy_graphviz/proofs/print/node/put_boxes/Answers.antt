use Rattle.lucy_tree.specs.View.{program_tree}
use Rattle.lucy_picture.proofs.TextLaws.{element_more}
use Rattle.lucy_graphviz.specs.Graphs.{own_box}
use Rattle.lucy_graphviz.proofs.print.node.put_boxes.Goals as goal

pub each-preserved : goal.each-preserved
each-preserved c =
    element_more (own_box (program_tree c.args.program.now) c.args.accepted.now c.args.node c.args.found.now) c.args.places.now c.each.i c.drawn_at-drawn.result.now c.each.out.items _ _ c.drawn_at-drawn.ensures c.in_ok-put_own.ensures c.each.invariant
