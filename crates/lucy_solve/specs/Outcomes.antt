-- What the solver's answer says of a system.
use Rattle.std.specs.Prelude.{ℕ, List}
use Rattle.lucy_solve.specs.System.{DifferenceSystem, HasNoSolution, IsEarliest, IsNegativeCycle}
use Rattle.lucy_solve.specs.declared.solver.Outcome.{Outcome}
use Rattle.lucy_solve.specs.declared.solver.Outcome.TheVariants.{Earliest, Cycle}

-- a negative cycle of the system, which so has no solution
abbrev pub IsRefutedBy : DifferenceSystem → List ℕ → Type 0
IsRefutedBy s cycle = IsNegativeCycle s.list cycle × HasNoSolution s

-- the earliest solution, or a negative cycle
abbrev pub IsOutcome : DifferenceSystem → Outcome → Type 0
IsOutcome s (Earliest values) = IsEarliest s values.items
IsOutcome s (Cycle cycle) = IsRefutedBy s cycle.items

-- the answer is a cycle
abbrev pub IsCycle : Outcome → Type 0
IsCycle (Earliest values) = ⊥
IsCycle (Cycle cycle) = Unit {0}
