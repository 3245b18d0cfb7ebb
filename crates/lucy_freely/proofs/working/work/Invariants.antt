use Rattle.std.proofs.Common.{length}
use Rattle.lucy_host.specs.Host.{lent}
use Rattle.lucy_host.specs.Operators.{kinds_of}
use Rattle.lucy_freely.specs.Loops.{IsUnderWay}
use Rattle.lucy_freely.proofs.working.work.Given as goal

abbrev pub invariant-turns : goal.invariant-turns
invariant-turns g l = IsUnderWay (kinds_of (lent l.host)) (length (lent l.host)) l.fn.seat.worker.parts l.seat.worker.parts
