use Rattle.std.proofs.Common.{arith}
use Rattle.lucy_shape.proofs.RowCounts.{equal_count, adapt_count}
use Rattle.lucy_shape.proofs.Reaches.{spreadable_wide}
use Rattle.lucy_shape.proofs.instances.add_need.Goals as goal

pub instances_of-count-requires-clause-second : goal.instances_of-count-requires-clause-second
instances_of-count-requires-clause-second c = spreadable_wide c.args.diffs.now.count _ _ c.requires.small.few ((rw c.in-Equal.is at c.requires.ready).3)

pub add_equal-requires-clause-second : goal.add_equal-requires-clause-second
add_equal-requires-clause-second c = (rw c.in-Equal.is at c.requires.ready).3

pub instances_of-count-requires-in-Adapt-clause-second : goal.instances_of-count-requires-in-Adapt-clause-second
instances_of-count-requires-in-Adapt-clause-second c = spreadable_wide c.args.diffs.now.count _ _ c.requires.small.few ((rw c.in-Adapt.is at c.requires.ready).3)

pub add_adapt-requires-clause-second : goal.add_adapt-requires-clause-second
add_adapt-requires-clause-second c = (rw c.in-Adapt.is at c.requires.ready).3

pub add_equal-requires-clause-few : goal.add_equal-requires-clause-few
add_equal-requires-clause-few c =
    let few = rw c.in-Equal.is at c.requires.few in
    omega (arith, few, equal_count c.args.period c.args.clocks.now c.in-Equal.s c.in-Equal.t, c.instances_of-count.ensures.is)

pub add_adapt-requires-clause-few : goal.add_adapt-requires-clause-few
add_adapt-requires-clause-few c =
    let few = rw c.in-Adapt.is at c.requires.few in
    omega (arith, few, adapt_count c.args.period c.args.clocks.now c.in-Adapt.s c.in-Adapt.t, c.instances_of-count-in-Adapt.ensures.is)
