use Rattle.lucy_graphviz.specs.Nets.{output_text}
use Rattle.lucy_graphviz.proofs.NetLaws.{numbered_none, numbered_more}
use Rattle.lucy_graphviz.proofs.print.rings.put_outputs.Goals as goal

pub each-init : goal.each-init
each-init c = numbered_none output_text c.args.begin c.args.outputs.now c.args.out.now.items

pub each-preserved : goal.each-preserved
each-preserved c =
    numbered_more output_text c.args.outputs.now c.args.begin c.each.i c.output_at.result.now c.each.out.items _ _ c.output_at.ensures c.in_ok-put_output.ensures c.each.invariant
