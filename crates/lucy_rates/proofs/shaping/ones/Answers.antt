use Rattle.std.proofs.Common.{refl, sym, subst, arith}
use Rattle.std.specs.Prelude.{slice_index}
use Rattle.lucy_rates.specs.Laying.{AreOnes}
use Rattle.lucy_rates.proofs.Asking.{ones_more}
use Rattle.lucy_rates.proofs.Raising.{ones_few}
use Rattle.lucy_rates.proofs.shaping.ones.Goals as goal

pub overflow_mul-vector : goal.overflow_mul-vector
overflow_mul-vector c =
    let f = ones_few (slice_index c.args.vector.now c.loop-clock.clock) c.args.period (slice_index c.args.tops.now (slice_index c.args.roots.now c.loop-clock.clock)) (c.requires.few c.loop-clock.clock c.loop-clock-test.true) c.requires.short in
    omega arith

pub loop-clock-preserved : goal.loop-clock-preserved
loop-clock-preserved c =
    subst (AreOnes c.args.roots.now c.args.vector.now c.args.tops.now c.args.period _) (sym c.in_ok-push.ensures.items)
    (ones_more c.args.roots.now c.args.vector.now c.args.tops.now c.args.period c.loop-clock.clock c.loop-clock.list.items _ c.loop-clock.invariant refl
    (ones_few (slice_index c.args.vector.now c.loop-clock.clock) c.args.period (slice_index c.args.tops.now (slice_index c.args.roots.now c.loop-clock.clock)) (c.requires.few c.loop-clock.clock c.loop-clock-test.true) c.requires.short))
