use Rattle.std.proofs.Common.{arith}
use Rattle.lucy_net.specs.Passing.{AreTooMany}
use Rattle.lucy_net.proofs.LengthLaws.{lengths_none}
use Rattle.lucy_net.proofs.PeriodLaws.{if_none, actors_too_long, actors_more, write_too_long, read_too_long, rings_more}
use Rattle.lucy_net.proofs.lengths.lengths_of.Goals as goal

pub actors-init : goal.actors-init
actors-init c = record { lengths = lengths_none; short = omega arith }

pub returns-in_err-lengths-clause-none : goal.returns-in_err-lengths-clause-none
returns-in_err-lengths-clause-none c =
    if_none c.from_residual.result (AreTooMany c.args.net.now)
    (actors_too_long c.args.net.now c.list-actor-items.result.now c.actors.actor-index c.actor-item.result c.actors.lengths.prefix c.actors.lengths.period c.list-actor-items.ensures (omega arith) c.actor-item.is c.actors.invariant.lengths c.in_err-lengths.ensures.none)

pub actors-preserved : goal.actors-preserved
actors-preserved c = record {
  lengths = actors_more c.list-actor-items.result.now c.actors.actor-index c.actor-item.result c.actors.lengths.prefix c.actors.lengths.period c.in_ok-lengths.lengths.prefix c.in_ok-lengths.lengths.period (omega arith) c.actor-item.is c.actors.invariant.lengths
      c.in_ok-lengths.ensures.nonempty c.in_ok-lengths.ensures.prefix c.in_ok-lengths.ensures.period;
  short = c.in_ok-lengths.ensures.short;
}

pub returns-in_err-written-clause-none : goal.returns-in_err-written-clause-none
returns-in_err-written-clause-none c =
    if_none c.from_residual-in_err-written.result (AreTooMany c.args.net.now)
    (write_too_long c.args.net.now c.list-ring-items.result.now c.rings.ring-index c.ring-item.result c.rings.lengths.prefix c.rings.lengths.period c.list-ring-items.ensures (omega arith) c.ring-item.is c.rings.invariant.lengths c.in_err-written.ensures.none)

pub returns-in_err-lengths-2-clause-none : goal.returns-in_err-lengths-2-clause-none
returns-in_err-lengths-2-clause-none c =
    if_none c.from_residual-in_err-lengths-2.result (AreTooMany c.args.net.now)
    (read_too_long c.args.net.now c.list-ring-items.result.now c.rings.ring-index c.ring-item.result c.rings.lengths.prefix c.rings.lengths.period c.in_ok-written.written.prefix c.in_ok-written.written.period c.list-ring-items.ensures (omega arith) c.ring-item.is
    c.rings.invariant.lengths c.in_ok-written.ensures.nonempty c.in_ok-written.ensures.prefix c.in_ok-written.ensures.period c.in_err-lengths-2.ensures.none)

pub rings-preserved : goal.rings-preserved
rings-preserved c = record {
  lengths = rings_more c.args.net.now c.list-ring-items.result.now c.rings.ring-index c.ring-item.result c.rings.lengths.prefix c.rings.lengths.period c.in_ok-written.written.prefix c.in_ok-written.written.period c.in_ok-lengths-2.lengths.prefix
      c.in_ok-lengths-2.lengths.period (omega arith) c.ring-item.is c.rings.invariant.lengths c.in_ok-written.ensures.nonempty c.in_ok-written.ensures.prefix c.in_ok-written.ensures.period c.in_ok-lengths-2.ensures.nonempty c.in_ok-lengths-2.ensures.prefix
      c.in_ok-lengths-2.ensures.period;
  short = c.in_ok-lengths-2.ensures.short;
}
