use Rattle.std.proofs.Common.{ℕ, ◌-◌, ◌<◌, ◌≤◌, List, ℤ}
use Rattle.lucy_solve.specs.System.{Solves, HasNoSolution}
use Rattle.lucy_shape.specs.Sized.{sized_system}
use Rattle.lucy_tight.proofs.search.search.Given as goal

-- there is a solution at `high`, and none at a size below `low`
abbrev pub invariant-loop-low : goal.invariant-loop-low
invariant-loop-low l = (l.low ≤ l.high) × (l.high ≤ l.fn.printed) × ((xs : List ℤ) × Solves (sized_system l.needs l.shape l.from l.to l.high) xs)
    × ((size : ℕ) → size < l.low → HasNoSolution (sized_system l.needs l.shape l.from l.to size))

abbrev pub decreases-loop-low : goal.decreases-loop-low
decreases-loop-low l = l.high - l.low
