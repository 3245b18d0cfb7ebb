use Rattle.lucy_explain.proofs.StreamLaws.{numbers_more}
use Rattle.lucy_explain.proofs.streams.numbered.Goals as goal

pub each-preserved : goal.each-preserved
each-preserved c = numbers_more c.each.clock c.each.list.items _ c.each.invariant c.in_ok-push.ensures.items
