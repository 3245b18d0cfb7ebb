use Rattle.std.proofs.Common.{◌≡◌, ◌*◌, ◌≤◌, take}
use Rattle.std.specs.Prelude.{sum_by}
use Rattle.lucy_runner.specs.Seats.{moves_of}
use Rattle.lucy_worker.specs.Turns.{most_moves}
use Rattle.lucy_runner.proofs.seat.moves_in.Given as goal

abbrev pub invariant-loop-seat : goal.invariant-loop-seat
invariant-loop-seat l = (l.moves ≡ sum_by moves_of (take l.seat-index l.seats)) × (l.moves ≤ l.seat-index * most_moves)
