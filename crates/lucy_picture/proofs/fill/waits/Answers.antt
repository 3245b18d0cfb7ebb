use Rattle.lucy_picture.specs.Charts.{waiting}
use Rattle.lucy_picture.proofs.ChartLaws.{instants_more}
use Rattle.lucy_picture.proofs.fill.waits.Goals as goal

pub each-preserved : goal.each-preserved
each-preserved c = instants_more (waiting c.args.write.now c.args.read.now) c.each.i _ _ _ c.each.invariant c.in_ok-push.ensures c.waiting_at.ensures
