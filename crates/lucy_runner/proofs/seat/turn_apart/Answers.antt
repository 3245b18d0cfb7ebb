use Rattle.std.proofs.Common.{ℕ, ◌<◌, length, get_or, subst}
use Rattle.lucy_host.specs.Host.{lent}
use Rattle.lucy_host.specs.Operators.{kinds_of}
use Rattle.lucy_runner.specs.declared.seat.Seat.{Seat}
use Rattle.lucy_runner.specs.Seats.{IsTurned}
use Rattle.lucy_runner.proofs.TurningLaws.{all_turned, turned_few}
use Rattle.lucy_runner.proofs.seat.turn_apart.Goals as goal

pub moves_in-requires-clause-each : goal.moves_in-requires-clause-each
moves_in-requires-clause-each g c =
    let kinds = kinds_of (lent c.args.host.now) in
    let each : (k : ℕ) (d : Seat) → k < length c.args.seats.now → IsTurned kinds (get_or c.args.seats.now k d)
    (get_or c.for_each_mut.new.s k d) = λ k d l.
    (let m = (c.for_each_mut.ensures k d l).1 in subst (λ (x : Seat). IsTurned kinds x (get_or c.for_each_mut.new.s k d))
    {y = get_or c.args.seats.now k d} m.argument_is
    (subst (λ (y : Seat). IsTurned kinds m.argument.now y) {y = get_or c.for_each_mut.new.s k d} m.left m.call)) in
    turned_few kinds c.args.seats.now c.for_each_mut.new.s c.for_each_mut.auto.s each

pub returns-clause-turned : goal.returns-clause-turned
returns-clause-turned g c =
    let kinds = kinds_of (lent c.args.host.now) in
    let each : (k : ℕ) (d : Seat) → k < length c.args.seats.now → IsTurned kinds (get_or c.args.seats.now k d)
    (get_or c.for_each_mut.new.s k d) = λ k d l.
    (let m = (c.for_each_mut.ensures k d l).1 in subst (λ (x : Seat). IsTurned kinds x (get_or c.for_each_mut.new.s k d))
    {y = get_or c.args.seats.now k d} m.argument_is
    (subst (λ (y : Seat). IsTurned kinds m.argument.now y) {y = get_or c.for_each_mut.new.s k d} m.left m.call)) in
    all_turned kinds c.args.seats.now c.for_each_mut.new.s c.moves_in.result c.for_each_mut.auto.s each c.moves_in.ensures.sum
