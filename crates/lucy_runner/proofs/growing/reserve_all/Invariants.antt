use Rattle.lucy_runner.proofs.StepLaws.{IsChangedTo}
use Rattle.lucy_runner.proofs.GrowLaws.{SeatSpaced}
use Rattle.lucy_runner.proofs.growing.reserve_all.Given as goal

abbrev pub invariant-loop-seat : goal.invariant-loop-seat
invariant-loop-seat l = IsChangedTo (SeatSpaced l.inputs l.instants) l.fn.seats l.seats l.seat-index
