use Rattle.lucy_diagram.proofs.LayeringLaws.{all_more}
use Rattle.lucy_diagram.proofs.layers.all_of.Goals as goal

pub each-preserved : goal.each-preserved
each-preserved c =
    all_more c.args.found.now c.each.place c.layer_at.result c.each.layers.items _ c.requires c.each-test.true c.layer_at.ensures c.in_ok-push.ensures.items c.each.invariant
