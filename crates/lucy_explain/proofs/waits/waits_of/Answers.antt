use Rattle.lucy_explain.proofs.WaitLaws.{waits_more}
use Rattle.lucy_explain.proofs.waits.waits_of.Goals as goal

pub each-preserved : goal.each-preserved
each-preserved c =
    let kept = c.each.invariant in
    waits_more c.args.write.now c.args.read.now c.each.waits.items _ c.each.i c.in-Some.wait kept.1 kept.0 c.in-Some.ensures c.in_ok-push.ensures.items
