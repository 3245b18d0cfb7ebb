use Rattle.std.proofs.Common.{arith}
use Rattle.lucy_word.proofs.PackedLaws.{run_more}
use Rattle.lucy_word.proofs.packed.Packed.push_run.Goals as goal

pub loop-made-preserved : goal.loop-made-preserved
loop-made-preserved c = record {
  within = omega (arith, c.min-some.ensures);
  bits = run_more c.args.self.now c.loop-made.self c.push.new.self c.args.bit c.loop-made.made c.min-some.result c.run.result c.loop-made.invariant.bits c.in_ok-push.ensures c.run.ensures.bits;
}
