use Rattle.lucy_picture.proofs.FillLaws.{fills_more}
use Rattle.lucy_picture.proofs.fill.fills.Goals as goal

pub each-preserved : goal.each-preserved
each-preserved c =
    let l = c.each in
    fills_more c.args.node.now c.args.clock.now c.args.shown l.i _ _ _ l.invariant.0 l.invariant.1 c.in_ok-push_fill.ensures c.in_ok-fill_at.ensures
