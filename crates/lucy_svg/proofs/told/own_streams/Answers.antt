use Rattle.lucy_svg.proofs.ToldLaws.{told_none, told_push}
use Rattle.lucy_svg.proofs.told.own_streams.Goals as goal

pub each-init : goal.each-init
each-init c = told_none c.args.node.now _ c.new-streams.ensures.items

pub each-preserved : goal.each-preserved
each-preserved c =
    told_push c.args.node.now c.each.i c.entry_at.result.now c.own.result _ _ c.each.invariant.0 c.each.invariant.1 c.entry_at.ensures c.own.ensures
    c.in_ok-push.ensures
