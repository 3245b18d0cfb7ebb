use Rattle.std.proofs.Common.{◌+◌, length}
use Rattle.lucy_host.specs.Host.{lent}
use Rattle.lucy_host.specs.Operators.{kinds_of}
use Rattle.lucy_worker.specs.Readiness.{left_by, HavePassed}
use Rattle.lucy_worker.proofs.worker.Worker.advance.Given as goal

abbrev pub invariant-loop-found : goal.invariant-loop-found
invariant-loop-found g l = HavePassed (kinds_of (lent l.host)) (length (lent l.host)) l.fn.self.parts l.parts l.moves

abbrev pub decreases-loop-found : goal.decreases-loop-found
decreases-loop-found g l = left_by l.parts + l.found
