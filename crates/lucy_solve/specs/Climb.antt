-- The search for a circle of parents. Variables are marked 1, 2, .. as they are met, path by path.
use Rattle.std.specs.Prelude.{◌≡◌, ℕ, ◌+◌, ◌-◌, ◌<◌, ◌≤◌, ◌⊎◌, List, length, slice_index, Bool, count_by, nat_lt}
use Rattle.lucy_solve.specs.System.{DifferenceSystem, diff_at}
use Rattle.lucy_solve.specs.Parents.{IsRoot}

-- a mark above 0
abbrev pub is_marked : ℕ → Bool
is_marked mark = nat_lt 0 mark

-- marks up to `before` are of earlier paths, whose variables are a forest; those above it are of the path of parents from `start`, which has come to `at`
pub record IsClimb (s : DifferenceSystem) (parents marks path : List ℕ) (before start at : ℕ) : Type 0 where
  pub size : length marks ≡ s.count
  pub begun : start < s.count → slice_index marks start ≡ 0 → at ≡ start
  pub inside : start < s.count → at < s.count
  pub done : (v : ℕ) → v < start → v < s.count → (0 < slice_index marks v) ⊎ IsRoot s parents v
  pub total : count_by is_marked marks ≡ before + length path
  pub top : (v : ℕ) → slice_index marks v ≤ before + length path
  -- the path
  pub kept : (j : ℕ) → j < length path → slice_index parents (diff_at s.list (slice_index path j)).right ≡ slice_index path j
  pub within : (j : ℕ) → j < length path → slice_index path j < length s.list
  pub marked : (j : ℕ) → j < length path → slice_index marks (diff_at s.list (slice_index path j)).right ≡ before + j + 1
  pub found : (v : ℕ) → before < slice_index marks v → (diff_at s.list (slice_index path (slice_index marks v - before - 1))).right ≡ v
  pub joined : (j : ℕ) → j + 1 < length path → (diff_at s.list (slice_index path j)).left ≡ (diff_at s.list (slice_index path (j + 1))).right
  pub last : (j : ℕ) → j + 1 ≡ length path → (diff_at s.list (slice_index path j)).left ≡ at
  -- the forest
  pub depth : ℕ → ℕ
  pub shallow : (v : ℕ) → depth v ≤ before
  pub tree : (v : ℕ) → v < s.count → 0 < slice_index marks v → slice_index marks v ≤ before → slice_index parents v < length s.list
  pub up : (v : ℕ) → v < s.count → 0 < slice_index marks v → slice_index marks v ≤ before → depth (diff_at s.list (slice_index parents v)).left < depth v
  pub closed : (v : ℕ) → v < s.count → 0 < slice_index marks v → slice_index marks v ≤ before →
      ((0 < slice_index marks (diff_at s.list (slice_index parents v)).left) × (slice_index marks (diff_at s.list (slice_index parents v)).left ≤ before)) ⊎ IsRoot s parents (diff_at s.list (slice_index parents v)).left

-- the path ends at a variable that earlier paths met, or at a root that they did not
abbrev pub IsEnd : DifferenceSystem → List ℕ → List ℕ → ℕ → ℕ → Type 0
IsEnd s parents marks before at = ((0 < slice_index marks at) × (slice_index marks at ≤ before)) ⊎ ((slice_index marks at ≡ 0) × IsRoot s parents at)
