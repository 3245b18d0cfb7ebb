use Rattle.std.proofs.Common.{◌≡◌, []}
use Rattle.lucy_solve.specs.Climb.{IsClimb}
use Rattle.lucy_solve.proofs.cycle.find_cycle.Given as goal

abbrev pub invariant-loop-start : goal.invariant-loop-start
invariant-loop-start l = IsClimb l.diffs l.parents l.marks l.path.items l.before l.start l.start × (l.path.items ≡ [])
