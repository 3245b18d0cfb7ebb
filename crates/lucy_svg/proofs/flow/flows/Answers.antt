use Rattle.lucy_svg.proofs.FlowLaws.{follow_more}
use Rattle.lucy_svg.proofs.flow.flows.Goals as goal

pub each-preserved : goal.each-preserved
each-preserved c =
    follow_more c.args.fills.now c.each.i _ _ _ _ c.each.invariant c.in_ok-push.ensures c.fill_at.ensures c.in_ok-flow_of.ensures
