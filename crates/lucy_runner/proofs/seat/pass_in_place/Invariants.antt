use Rattle.std.proofs.Common.{ℕ, ◌≡◌, ◌<◌, ◌≤◌, get_or}
use Rattle.lucy_host.specs.Host.{lent}
use Rattle.lucy_host.specs.Operators.{kinds_of}
use Rattle.lucy_runner.specs.declared.seat.Seat.{Seat}
use Rattle.lucy_runner.specs.Seats.{IsTurned}
use Rattle.lucy_runner.proofs.seat.pass_in_place.Given as goal

abbrev pub invariant-loop-seat : goal.invariant-loop-seat
invariant-loop-seat g l =
    ((k : ℕ) (d : Seat) → k < l.seat-index → IsTurned (kinds_of (lent l.host)) (get_or l.fn.seats k d) (get_or l.seats k d))
    × ((k : ℕ) (d : Seat) → l.seat-index ≤ k → get_or l.seats k d ≡ get_or l.fn.seats k d)
