use Rattle.std.proofs.Common.{arith}
use Rattle.lucy_stream.proofs.TotalLaws.{total_more}
use Rattle.lucy_core.specs.Seen.{done_of}
use Rattle.lucy_trace.proofs.catching.left_until.Goals as goal

pub overflow_sub-more : goal.overflow_sub-more
unfolding done_of
overflow_sub-more c = omega (arith, c.done.ensures, c.requires.most c.loop-actor.actor)

pub loop-actor-preserved : goal.loop-actor-preserved
unfolding done_of
loop-actor-preserved c =
    omega (
      arith,
      c.loop-actor.invariant,
      c.in_ok-left.ensures.1,
      c.done.ensures,
      c.requires.most c.loop-actor.actor,
      total_more c.loop-actor.actor (done_of c.args.core.now.done),
      total_more c.loop-actor.actor (done_of c.args.counts.now),
    )
