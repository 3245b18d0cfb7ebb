use Rattle.std.proofs.Common.{◌<◌, ◌-◌, length}
use Rattle.lucy_solve.specs.Climb.{IsClimb}
use Rattle.lucy_solve.proofs.climb.climb.Given as goal

abbrev pub invariant-loop-marks : goal.invariant-loop-marks
invariant-loop-marks l = IsClimb l.diffs l.parents l.marks l.path.items l.before l.start l.at × (l.at < l.diffs.count)

abbrev pub decreases-loop-marks : goal.decreases-loop-marks
decreases-loop-marks l = length l.diffs.list - length l.path.items
