use Rattle.std.proofs.Common.{◌≤◌, length}
use Rattle.lucy_host.specs.Host.{lent}
use Rattle.lucy_host.specs.Operators.{kinds_of}
use Rattle.lucy_worker.specs.Readiness.{HaveRunBy}
use Rattle.lucy_worker.proofs.Runs.{HasComeDown}
use Rattle.lucy_worker.proofs.passing.pass_back.Given as goal

abbrev pub invariant-loop-at : goal.invariant-loop-at
invariant-loop-at g l = HaveRunBy (kinds_of (lent l.host)) (length (lent l.host)) l.fn.parts l.parts l.moves
    × HasComeDown l.fn.parts l.parts l.at × (l.at ≤ length l.parts)

abbrev pub decreases-loop-at : goal.decreases-loop-at
decreases-loop-at g l = l.at
