-- Where a core may be led to.
use Rattle.std.specs.Prelude.{ℕ, ◌≡◌, List}
use Rattle.lucy_core.specs.Seen.{Seen, CanRun, after_picks}

-- a run leads from the core to where each actor has done its number of operations
abbrev pub IsAhead : Seen → (counts : List ℕ) → Type 0
IsAhead seen counts = (picks : List ℕ) × CanRun seen picks × (after_picks seen picks ≡ record seen { done = counts })
