use Rattle.lucy_diagram.specs.Diagrams.{IsDrawnCall}
use Rattle.lucy_diagram.proofs.ListLaws.{each_more}
use Rattle.lucy_diagram.proofs.call.calls.Goals as goal

pub each-preserved : goal.each-preserved
each-preserved c =
    let l = c.each in
    each_more (IsDrawnCall c.args.placed.now.nodes c.args.node.now) l.i _ _ _ l.invariant.0 l.invariant.1 c.in_ok-push.ensures.items c.call_at.ensures
