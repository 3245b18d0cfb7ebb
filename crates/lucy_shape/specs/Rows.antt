-- Positions past those that have variables, and the inequality between two positions.
use Rattle.std.specs.Prelude.{ℕ, ◌+◌, ◌-◌, ◌*◌, ◌/◌, ◌<◌, ◌≤◌, ◌≡◌, ℤ, pos, negsuc, ◌+ℤ◌, ◌-ℤ◌, ◌≤ℤ◌, List}
use Rattle.lucy_solve.specs.declared.diffs.Diff.{Diff}
use Rattle.lucy_solve.specs.System.{value}
use Rattle.lucy_shape.specs.declared.shape.ClockShape.{ClockShape}
use Rattle.lucy_shape.specs.Fitting.{variable_of}

-- by how many periods a position is folded: the least number of periods by whose ones it has to go back to have a variable
abbrev pub turns_of : ClockShape → ℕ → ℕ
turns_of c m = (m - c.lead - 1) / c.ones

-- the position to which it is folded
abbrev pub folded : ClockShape → ℕ → ℕ
folded c m = m - turns_of c m * c.ones

-- position m of one clock is at most position k of another: both are folded, and stand as many periods later
abbrev pub row : ℕ → ClockShape → ℕ → ClockShape → ℕ → Diff
row P c m d k = record { left = variable_of c (folded c m); right = variable_of d (folded d k); most = pos (turns_of d k * P) -ℤ pos (turns_of c m * P) }

-- the numbers meet the inequality
abbrev pub HoldsIn : List ℤ → Diff → Type 0
HoldsIn xs d = value xs d.left ≤ℤ (value xs d.right +ℤ d.most)

-- the numbers meet a clock's bounds, neighbours and period
pub record SolvesClock (P : ℕ) (c : ClockShape) (xs : List ℤ) : Type 0 where
  pub origin : value xs 0 ≡ pos 0
  pub bounds : (m : ℕ) → 0 < m → m ≤ c.lead + c.ones → HoldsIn xs (record { left = 0; right = variable_of c m; most = negsuc 0 })
  pub neighbours : (m : ℕ) → 0 < m → m < c.lead + c.ones → HoldsIn xs (record { left = variable_of c m; right = variable_of c (m + 1); most = negsuc 0 })
  pub period : HoldsIn xs (record { left = variable_of c (c.lead + c.ones); right = variable_of c (c.lead + 1); most = pos P -ℤ pos 1 })
