use Rattle.std.proofs.Common.{ℕ, ◌<◌, length, get_or, subst}
use Rattle.lucy_host.specs.Host.{lent}
use Rattle.lucy_host.specs.Operators.{kinds_of}
use Rattle.lucy_runner.specs.declared.seat.Seat.{Seat}
use Rattle.lucy_runner.specs.Crews.{seated}
use Rattle.lucy_runner.specs.Finishing.{HasFinished}
use Rattle.lucy_freely.proofs.working.work_all.Goals as goal

pub returns : goal.returns
returns g c =
    let kinds = kinds_of (lent c.args.host.now) in
    let each : (k : ℕ) (d : Seat) → k < length c.args.seats.now →
    HasFinished kinds (seated (get_or c.args.seats.now k d)) (seated (get_or c.for_each_mut.new.s k d)) = λ k d l.
    (let m = (c.for_each_mut.ensures k d l).1 in
    subst (λ (x : Seat). HasFinished kinds (seated x) (seated (get_or c.for_each_mut.new.s k d))) {y = get_or c.args.seats.now k d} m.argument_is
    (subst (λ (y : Seat). HasFinished kinds (seated m.argument.now) (seated y)) {y = get_or c.for_each_mut.new.s k d} m.left m.call)) in
    record { as_many = c.for_each_mut.auto.s; each = each }
