use Rattle.std.proofs.Common.{arith}
use Rattle.lucy_explain.proofs.WaitLaws.{not_full_more}
use Rattle.lucy_explain.proofs.waits.first_full.Goals as goal

pub each-preserved : goal.each-preserved
each-preserved c =
    not_full_more c.args.write.now c.args.read.now c.args.size c.each.i _ c.each.invariant c.waiting_at-waiting.ensures (omega arith)
