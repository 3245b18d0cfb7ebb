use Rattle.std.proofs.Common.{arith}
use Rattle.lucy_rates.proofs.Asking.{multiplied_read, rate_read}
use Rattle.lucy_rates.proofs.vector.vector.Goals as goal

pub multiplied-requires-clause-rate : goal.multiplied-requires-clause-rate
multiplied-requires-clause-rate c = rate_read c.args.forest.now.rates.items c.loop-clock.clock c.index-in-loop-clock.result.now (let t = c.loop-clock-test.true in let s = c.requires.sizes.0 in omega arith) c.index-in-loop-clock.ensures (c.requires.rates c.loop-clock.clock (let t = c.loop-clock-test.true in omega arith))

pub loop-clock-preserved : goal.loop-clock-preserved
loop-clock-preserved c = multiplied_read c.args.forest.now.roots.items c.args.forest.now.rates.items c.args.factors.now c.loop-clock.clock c.loop-clock.list.items c.push.new.self.items c.index.result.now c.index-in-loop-clock.result.now c.multiplied.result
    c.loop-clock.invariant (let t = c.loop-clock-test.true in omega arith) c.requires.sizes.0 c.index.ensures c.index-in-loop-clock.ensures c.multiplied.ensures.exact c.multiplied.ensures.few c.in_ok-push.ensures.items
