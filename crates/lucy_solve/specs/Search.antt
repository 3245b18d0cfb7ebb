-- The search for the earliest solution: values that no solution goes below, and the parents by which they were lifted.
use Rattle.std.specs.Prelude.{◌≡◌, ℕ, ◌+◌, ◌-◌, ◌*◌, ◌^◌, ◌<◌, ◌≤◌, ℤ, pos, negsuc, ◌≤ℤ◌, List, length, slice_index, Bool, true, false, cond, sum}
use Rattle.lucy_solve.specs.declared.diffs.Diff.{Diff}
use Rattle.lucy_solve.specs.System.{most_constant, DifferenceSystem, diff_at, Solves, value}

-- a constant plus the greatest one, which gives no number below 0
abbrev pub shifted : ℤ → ℕ
shifted (pos n) = most_constant + n
shifted (negsuc n) = most_constant - 1 - n

-- the values meet inequality i
abbrev pub MeetsInequality : List Diff → List ℕ → ℕ → Type 0
MeetsInequality list values i = slice_index values (diff_at list i).left + most_constant ≤ slice_index values (diff_at list i).right + shifted (diff_at list i).most

-- inequality i ends at variable v, which stands no higher than i asks for; where it stands just so high, the left variable of i has a lower rank
pub record IsLift (list : List Diff) (values : List ℕ) (rank : ℕ → ℕ) (v i : ℕ) : Type 0 where
  pub target : (diff_at list i).right ≡ v
  pub most : slice_index values v + shifted (diff_at list i).most ≤ slice_index values (diff_at list i).left + most_constant
  pub strict : slice_index values v + shifted (diff_at list i).most ≡ slice_index values (diff_at list i).left + most_constant → rank (diff_at list i).left < rank v

-- no solution goes below the values; a variable without a parent has value 0, and the others were lifted by theirs
pub record IsReached (s : DifferenceSystem) (values parents : List ℕ) : Type 0 where
  pub value_count : length values ≡ s.count
  pub parent_count : length parents ≡ s.count
  pub lower : (others : List ℤ) → Solves s others → (v : ℕ) → v < s.count → pos (slice_index values v) ≤ℤ value others v
  pub root : (v : ℕ) → v < s.count → length s.list ≤ slice_index parents v → slice_index values v ≡ 0
  pub rank : ℕ → ℕ
  pub top : ℕ
  pub below : (v : ℕ) → rank v < top
  pub lifted : (v : ℕ) → v < s.count → slice_index parents v < length s.list → IsLift s.list values rank v (slice_index parents v)

-- each value is at most n times the greatest constant
abbrev pub AreWithin : List ℕ → ℕ → Type 0
AreWithin values n = (v : ℕ) → v < length values → slice_index values v ≤ most_constant * n

-- inequality i was looked at: where no value moved, it holds; else the sum of the values has risen, and none by more than the greatest constant past that of the left variable
pub record IsRaised (list : List Diff) (before values : List ℕ) (i : ℕ) (moved : Bool) : Type 0 where
  pub within : (n : ℕ) → AreWithin before n → slice_index before (diff_at list i).left + most_constant ≤ most_constant * n → AreWithin values n
  pub still : moved ≡ false → (values ≡ before) × MeetsInequality list values i
  pub risen : moved ≡ true → sum before < sum values

-- the position that a pass over a list comes to after some others
abbrev pub position_at : ℕ → Bool → ℕ → ℕ
position_at len backwards steps = cond backwards (len - 1 - steps) steps

-- a pass has come by some positions: where no value moved, the inequalities there hold; else the sum of the values has risen
pub record IsPassed (list : List Diff) (backwards : Bool) (before values : List ℕ) (steps : ℕ) (moved : Bool) : Type 0 where
  pub within : AreWithin values (length list + steps)
  pub grown : sum before ≤ sum values
  pub still : moved ≡ false → (values ≡ before) × ((k : ℕ) → k < steps → MeetsInequality list values (position_at (length list) backwards k))
  pub risen : moved ≡ true → sum before < sum values

-- values from which a lift stays within 64 bits are at most so many times the greatest constant
abbrev pub most_lifted : ℕ
most_lifted = 2 ^ 22

-- values in a sweep, which lifts from 2^61 and below, are at most so many times the greatest constant
abbrev pub most_swept : ℕ
most_swept = 2 ^ 21 + 1

-- inequalities were looked at whose left variables stood at 2^61 or below
pub record IsSwept (s : DifferenceSystem) (before values parents : List ℕ) : Type 0 where
  pub reached : IsReached s values parents
  pub within : AreWithin values most_swept
  pub grown : sum before ≤ sum values
