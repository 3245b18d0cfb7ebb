use Rattle.std.proofs.Common.{length}
use Rattle.lucy_host.specs.Host.{lent}
use Rattle.lucy_host.specs.Operators.{kinds_of}
use Rattle.lucy_worker.specs.Readiness.{HaveRunBy}
use Rattle.lucy_worker.proofs.Runs.{HasComeTo}
use Rattle.lucy_worker.proofs.passing.pass_on.Given as goal

abbrev pub invariant-loop-part : goal.invariant-loop-part
invariant-loop-part g l = HaveRunBy (kinds_of (lent l.host)) (length (lent l.host)) l.fn.parts l.parts l.moves × HasComeTo l.fn.parts l.parts l.part-index
