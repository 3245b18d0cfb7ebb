use Rattle.lucy_tree.specs.View.{program_tree}
use Rattle.lucy_picture.proofs.TextLaws.{element_more}
use Rattle.lucy_graphviz.specs.Graphs.{call_text}
use Rattle.lucy_graphviz.proofs.print.calls.put_calls.Goals as goal

pub put_call-requires : goal.put_call-requires
put_call-requires c = c.requires c.each.i c.drawn_at.result.now c.drawn_at.ensures

pub each-preserved : goal.each-preserved
each-preserved c =
    element_more (call_text (program_tree c.args.program.now) c.args.accepted.now c.args.node c.args.found.now c.args.labels.now) c.args.calls.now c.each.i c.drawn_at.result.now c.each.out.items _ _ c.drawn_at.ensures c.in_ok-put_call.ensures c.each.invariant
