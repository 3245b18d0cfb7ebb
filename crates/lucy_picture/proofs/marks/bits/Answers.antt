use Rattle.lucy_word.specs.Bits.{bit_at}
use Rattle.lucy_picture.proofs.ChartLaws.{instants_more}
use Rattle.lucy_picture.proofs.marks.bits.Goals as goal

pub each-preserved : goal.each-preserved
each-preserved c = instants_more (bit_at c.args.word.now) c.each.i _ _ _ c.each.invariant c.in_ok-push.ensures c.bit.ensures
