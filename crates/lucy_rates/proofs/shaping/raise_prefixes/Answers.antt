use Rattle.std.proofs.Common.{arith}
use Rattle.lucy_rates.proofs.Raising.{longest_read}
use Rattle.lucy_rates.proofs.shaping.raise_prefixes.Goals as goal

pub loop-need-preserved : goal.loop-need-preserved
loop-need-preserved c = longest_read c.args.needs.now _ c.loop-need.need-index c.need-item.result c.loop-need.prefixes c.raise.new.list c.raise-in-loop-need.new.list c.terms.result.0.now c.terms.result.1.now c.lengths-first_prefix.result.0 c.lengths-second_prefix.result.0
    c.loop-need.invariant c.loop-need-test.true c.need-item.is c.terms.ensures.first c.terms.ensures.second c.lengths-first_prefix.ensures.prefix c.lengths-second_prefix.ensures.prefix c.raise.ensures c.raise-in-loop-need.ensures
    (let s = c.lengths-first_prefix.ensures.short in omega arith) (let s = c.lengths-second_prefix.ensures.short in omega arith)
