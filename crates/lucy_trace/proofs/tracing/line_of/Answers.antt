use Rattle.lucy_trace.proofs.TraceLaws.{actors_more}
use Rattle.lucy_trace.proofs.tracing.line_of.Goals as goal

pub loop-place-preserved : goal.loop-place-preserved
loop-place-preserved c =
    actors_more c.args.picks.now c.loop-place.place c.loop-place.line.items c.put.new.line.items c.loop-place-test.true c.loop-place.invariant
    c.in_ok-put.ensures.first c.in_ok-put.ensures.later
