use Rattle.std.proofs.Common.{◌-◌, ◌+◌, ◌*◌, ◌≤◌}
use Rattle.lucy_host.specs.Host.{lent}
use Rattle.lucy_host.specs.Operators.{kinds_of}
use Rattle.lucy_runner.specs.Crews.{crew_of}
use Rattle.lucy_runner.specs.Turns.{HaveAllRun}
use Rattle.lucy_runner.specs.Seats.{most_along}
use Rattle.lucy_runner.proofs.route.passes_along.Given as goal

abbrev pub invariant-loop-more : goal.invariant-loop-more
invariant-loop-more g l =
    HaveAllRun (kinds_of (lent l.host)) (crew_of l.fn.seats) (crew_of l.seats) l.moves
    × (l.moves ≤ most_along)

abbrev pub decreases-loop-more : goal.decreases-loop-more
decreases-loop-more g l = (l.most - l.moves) * 2 + (1 - (1 - l.more))
