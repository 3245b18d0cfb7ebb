-- The parents of variables: the position of the inequality that lifted a variable last, or none of the list.
use Rattle.std.specs.Prelude.{◌≡◌, ℕ, ◌+◌, ◌<◌, ◌≤◌, List, length, slice_index}
use Rattle.lucy_solve.specs.System.{DifferenceSystem, diff_at}

-- variable v has no parent
abbrev pub IsRoot : DifferenceSystem → List ℕ → ℕ → Type 0
IsRoot s parents v = length s.list ≤ slice_index parents v

-- a parent ends at its variable
abbrev pub HasTargets : DifferenceSystem → List ℕ → Type 0
HasTargets s parents = (v : ℕ) → v < s.count → slice_index parents v < length s.list → (diff_at s.list (slice_index parents v)).right ≡ v

-- up its parents each variable comes to a root, in as many steps as there are inequalities or fewer
pub record IsForest (s : DifferenceSystem) (parents : List ℕ) : Type 0 where
  pub depth : ℕ → ℕ
  pub shallow : (v : ℕ) → depth v ≤ length s.list
  pub up : (v : ℕ) → v < s.count → slice_index parents v < length s.list → depth (diff_at s.list (slice_index parents v)).left < depth v

-- parents that follow one another in a circle
pub record IsRound (s : DifferenceSystem) (parents cycle : List ℕ) : Type 0 where
  pub some : 0 < length cycle
  pub few : length cycle ≤ length s.list
  pub within : (k : ℕ) → k < length cycle → slice_index cycle k < length s.list
  pub joined : (k : ℕ) → k + 1 < length cycle → (diff_at s.list (slice_index cycle k)).right ≡ (diff_at s.list (slice_index cycle (k + 1))).left
  pub closed : (k : ℕ) → k + 1 ≡ length cycle → (diff_at s.list (slice_index cycle k)).right ≡ (diff_at s.list (slice_index cycle 0)).left
  pub kept : (k : ℕ) → k < length cycle → slice_index parents (diff_at s.list (slice_index cycle k)).right ≡ slice_index cycle k
