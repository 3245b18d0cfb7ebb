use Rattle.std.proofs.Common.{arith}
use Rattle.lucy_trace.proofs.RoundLaws.{counted_more}
use Rattle.lucy_trace.proofs.rounds.count_all.Goals as goal

pub loop-actor-preserved : goal.loop-actor-preserved
loop-actor-preserved c =
    counted_more c.loop-actor.counts c.args.runner.now.seen.done c.loop-actor.actor c.done.result
    (omega (arith, c.loop-actor.auto.counts, c.loop-actor-test.true)) c.done.ensures c.loop-actor.invariant
