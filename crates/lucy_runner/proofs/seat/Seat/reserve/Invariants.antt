use Rattle.lucy_runner.proofs.StepLaws.{IsChangedTo}
use Rattle.lucy_runner.proofs.GrowLaws.{WithSpace}
use Rattle.lucy_runner.proofs.seat.Seat.reserve.Given as goal

abbrev pub invariant-loop-k : goal.invariant-loop-k
invariant-loop-k l = IsChangedTo (WithSpace l.inputs l.instants) l.fn.self.worker.parts l.self.worker.parts l.k
