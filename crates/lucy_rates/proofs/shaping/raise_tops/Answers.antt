use Rattle.lucy_rates.proofs.Raising.{tops_more}
use Rattle.lucy_rates.proofs.shaping.raise_tops.Goals as goal

pub loop-clock-preserved : goal.loop-clock-preserved
loop-clock-preserved c = tops_more c.args.roots.now c.args.vector.now c.loop-clock.clock c.loop-clock.tops c.raise.new.list c.counted.result c.loop-clock.invariant (c.requires.roots c.loop-clock.clock c.loop-clock-test.true) c.raise.ensures
    c.counted.ensures.some c.counted.ensures.none
