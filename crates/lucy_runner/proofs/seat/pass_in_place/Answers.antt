use Rattle.std.proofs.Common.{ℕ, length, sym, subst, arith}
use Rattle.std.specs.Prelude.{All}
use Rattle.lucy_host.specs.Host.{lent}
use Rattle.lucy_host.specs.Operators.{kinds_of}
use Rattle.lucy_worker.specs.Turns.{IsServed}
use Rattle.lucy_runner.specs.declared.seat.Seat.{Seat}
use Rattle.lucy_runner.proofs.TurningLaws.{turned_more, rest_more, all_turned, turned_few}
use Rattle.lucy_runner.proofs.seat.pass_in_place.Goals as goal

pub pass_over-seat-requires-clause-served : goal.pass_over-seat-requires-clause-served
pass_over-seat-requires-clause-served g c κs within =
    let i : ℕ = c.loop-seat.seat-index in
    let item : Seat = c.seat-item.result in
    subst (λ (x : Seat). All (IsServed (length (lent c.args.host.now))) x.worker.parts) (sym (c.loop-seat.invariant.1 i item (omega arith)))
    (c.requires.served i item c.loop-seat-test.true)

pub loop-seat-preserved : goal.loop-seat-preserved
loop-seat-preserved g c =
    let so_far = c.loop-seat.invariant in
    let e = c.pass_over-seat.ensures.turned in (
      turned_more (kinds_of (lent c.args.host.now)) c.args.seats.now c.loop-seat.seats c.loop-seat.seat-index c.seat-item.result _
          (omega arith) so_far.0 so_far.1
          (record { turned = record { run = e.run; moved = e.moved }; counted = e.counted; few = e.few }),
      rest_more c.args.seats.now c.loop-seat.seats c.loop-seat.seat-index _ so_far.1,
    )

pub moves_in-requires-clause-each : goal.moves_in-requires-clause-each
moves_in-requires-clause-each g c =
    turned_few (kinds_of (lent c.args.host.now)) c.args.seats.now c.loop-seat.seats c.loop-seat.auto.seats
    (λ k d l. c.loop-seat.invariant.0 k d (omega (arith, l, c.loop-seat-test.false)))

pub returns-clause-turned : goal.returns-clause-turned
returns-clause-turned g c =
    all_turned (kinds_of (lent c.args.host.now)) c.args.seats.now c.loop-seat.seats c.moves_in.result c.loop-seat.auto.seats
    (λ k d l. c.loop-seat.invariant.0 k d (omega (arith, l, c.loop-seat-test.false))) c.moves_in.ensures.sum
