use Rattle.lucy_diagram.specs.Diagrams.{IsDrawnBuffer}
use Rattle.lucy_diagram.proofs.ListLaws.{each_more}
use Rattle.lucy_diagram.proofs.buffer.buffers.Goals as goal

pub each-preserved : goal.each-preserved
each-preserved c =
    let l = c.each in
    each_more (IsDrawnBuffer c.args.node.now c.args.clock.now) l.i _ _ _ l.invariant.0 l.invariant.1 c.in_ok-push.ensures.items c.buffer_at.ensures
