use Rattle.lucy_runner.proofs.StepLaws.{IsChangedTo}
use Rattle.lucy_runner.proofs.GrowLaws.{WithMore}
use Rattle.lucy_runner.proofs.seat.Seat.extend.Given as goal

abbrev pub invariant-loop-k : goal.invariant-loop-k
invariant-loop-k l = IsChangedTo (WithMore l.inputs l.instants) l.fn.self.worker.parts l.self.worker.parts l.k
