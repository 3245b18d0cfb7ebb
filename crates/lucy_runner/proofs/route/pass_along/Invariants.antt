use Rattle.std.proofs.Common.{◌*◌, ◌≤◌}
use Rattle.lucy_host.specs.Host.{lent}
use Rattle.lucy_host.specs.Operators.{kinds_of}
use Rattle.lucy_runner.specs.Crews.{crew_of}
use Rattle.lucy_runner.specs.Turns.{HaveAllRun}
use Rattle.lucy_worker.specs.Turns.{most_moves}
use Rattle.lucy_runner.proofs.route.pass_along.Given as goal

abbrev pub invariant-loop-k : goal.invariant-loop-k
invariant-loop-k g l =
    HaveAllRun (kinds_of (lent l.host)) (crew_of l.fn.seats) (crew_of l.seats) l.moves
    × (l.moves ≤ l.k * most_moves)
