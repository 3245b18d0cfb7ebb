use Rattle.lucy_picture.proofs.TextLaws.{element_more}
use Rattle.lucy_graphviz.specs.Nets.{ring_text}
use Rattle.lucy_graphviz.proofs.print.rings.put_rings.Goals as goal

pub each-preserved : goal.each-preserved
each-preserved c =
    element_more (ring_text c.args.net.now) c.list-rings.result.now c.each.i c.ring_at.result.now c.each.out.items _ _ c.ring_at.ensures c.in_ok-put_ring.ensures c.each.invariant
