use Rattle.std.proofs.Common.{length, ap, arith}
use Rattle.lucy_need.specs.declared.need.Need.{Need}
use Rattle.lucy_shape.specs.Inequalities.{need_rows}
use Rattle.lucy_shape.proofs.RowCounts.{equal_count, adapt_count}
use Rattle.lucy_shape.proofs.instances.rows_of_need.Goals as goal

pub instances_of-requires-clause-second : goal.instances_of-requires-clause-second
instances_of-requires-clause-second c = (rw c.in-Equal.is at c.requires).3

pub instances_of-requires-in-Adapt-clause-second : goal.instances_of-requires-in-Adapt-clause-second
instances_of-requires-in-Adapt-clause-second c = (rw c.in-Adapt.is at c.requires).3

pub returns-in-Equal : goal.returns-in-Equal
returns-in-Equal c period =
    let e = ap (λ (need : Need). length (need_rows period c.args.clocks.now need)) c.in-Equal.is in
    omega (arith, e, equal_count period c.args.clocks.now c.in-Equal.s c.in-Equal.t, c.instances_of.ensures.is)

pub returns-in-Adapt : goal.returns-in-Adapt
returns-in-Adapt c period =
    let e = ap (λ (need : Need). length (need_rows period c.args.clocks.now need)) c.in-Adapt.is in
    omega (arith, e, adapt_count period c.args.clocks.now c.in-Adapt.s c.in-Adapt.t, c.instances_of-in-Adapt.ensures.is)
