use Rattle.std.proofs.Common.{length, get_or, arith}
use Rattle.lucy_host.specs.Host.{lent}
use Rattle.lucy_host.specs.Operators.{kinds_of}
use Rattle.lucy_runner.specs.declared.place.Place.{Place}
use Rattle.lucy_runner.specs.declared.seat.Seat.{Seat}
use Rattle.lucy_runner.specs.Crews.{crew_of}
use Rattle.lucy_runner.proofs.TurningLaws.{served_at}
use Rattle.lucy_runner.proofs.RunLaws.{none_run, runs_more, still_run, served_on}
use Rattle.lucy_runner.proofs.route.pass_along.Goals as goal
use Rattle.lucy_runner.proofs.route.pass_along.Goals.{then-is_there, else-is_there}

pub loop-k-init : goal.loop-k-init
loop-k-init g c = (none_run (kinds_of (lent c.args.host.now)) (crew_of c.args.seats.now), omega arith)

pub go_on-moves-requires-clause-served : goal.go_on-moves-requires-clause-served
go_on-moves-requires-clause-served g c κs within =
    let there = c.is_there.ensures c.if-is_there.true in
    let count = length (lent c.args.host.now) in
    served_at c.loop-k.seats count _ c.index-seats-place.result
    (served_on (kinds_of (lent c.args.host.now)) count (crew_of c.args.seats.now) (crew_of c.loop-k.seats) c.loop-k.moves
    c.loop-k.invariant.0 c.requires.served) there.0

pub loop-k-preserved : goal.loop-k-preserved
loop-k-preserved g c =
    let kinds = kinds_of (lent c.args.host.now) in
    let place : Place = get_or c.args.route.now c.if-back.at (record { seat = 0; part = 0 }) in
    elim c.if-is_there.branch [
      | then-is_there w ↦
          let d : Seat = w.index-seats-place.result in
          let y : Seat = record (get_or c.loop-k.seats place.seat d) { worker = w.go_on-moves.new.self } in
          let e = w.go_on-moves.ensures in (
            runs_more kinds c.args.seats.now c.loop-k.seats c.if-is_there.seats place.seat c.loop-k.moves w.go_on-moves.result
                c.if-is_there.moves d y c.loop-k.invariant.0
                (c.is_there.ensures w.if-is_there.true).0 e.run e.counted w.seats-is w.moves-is,
            omega (arith, e.few, w.moves-is, c.loop-k.invariant.1),
          )
      | else-is_there w ↦ (
        still_run kinds c.args.seats.now c.loop-k.seats c.if-is_there.seats c.loop-k.moves c.if-is_there.moves
            c.loop-k.invariant.0 w.seats-is w.moves-is,
        omega (arith, w.moves-is, c.loop-k.invariant.1),
      )
    ]
