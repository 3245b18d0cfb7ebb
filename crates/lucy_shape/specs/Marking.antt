-- Bits that are ones at given positions, and the words of the first clocks.
use Rattle.std.specs.Prelude.{ℕ, ◌+◌, ◌<◌, ◌≤◌, ◌≡◌, ◌⊎◌, ◌↔◌, Bool, true, false, List, length, slice_index_or, ℤ, pos, ◌≤ℤ◌, ◌<ℤ◌}
use Rattle.lucy_word.specs.Bits.{Bits}
use Rattle.lucy_word.specs.Stored.{IsStored}
use Rattle.lucy_need.specs.Meeting.{assigned}
use Rattle.lucy_solve.specs.System.{value}
use Rattle.lucy_shape.specs.declared.shape.ClockShape.{ClockShape}
use Rattle.lucy_shape.specs.declared.shape.Shape.{Shape}
use Rattle.lucy_shape.specs.Fitting.{clock_at}
use Rattle.lucy_shape.specs.Rows.{SolvesClock}
use Rattle.lucy_word.specs.declared.limit.Limit.{Limit}
use Rattle.lucy_word.specs.declared.limit.Limit.TheVariants as limit
use Rattle.lucy_shape.specs.Writing.{IsWordOf, IsWrittenLong, HasLongWord}

-- the number is one of so many from `from` on
abbrev pub IsBetween : ℕ → ℕ → ℤ → Type 0
IsBetween from len x = (pos from ≤ℤ x) × (x <ℤ pos (from + len))

-- one of the first so many numbers is this one
abbrev pub IsAmongFirst : List ℤ → ℕ → ℕ → Type 0
IsAmongFirst positions upto i = (j : ℕ) × (j < upto) × (value positions j ≡ pos i)

-- the bits are ones exactly at the first so many numbers, the first bit standing at `from`
abbrev pub AreMarked : ℕ → List ℤ → ℕ → List Bool → Type 0
AreMarked from positions upto bits = (k : ℕ) → k < length bits → (slice_index_or bits k false ≡ true ↔ IsAmongFirst positions upto (from + k))

-- and at all of them
abbrev pub AreMarks : ℕ → List ℤ → List Bool → Type 0
AreMarks from positions bits = AreMarked from positions (length positions) bits

-- the numbers of a clock's variables are its positions
pub record IsSolved (P : ℕ) (c : ClockShape) (xs : List ℤ) : Type 0 where
  pub some : 0 < c.ones
  pub first : 0 < c.first
  pub inside : c.first + c.lead + c.ones ≤ length xs
  pub solves : SolvesClock P c xs

-- the words of the first so many clocks, as they lie in memory, none of which is written too long
pub record AreWordsSoFar (shape : Shape) (xs : List ℤ) (upto : ℕ) (words : List Bits) : Type 0 where
  pub size : length words ≡ upto
  pub each : (c : ℕ) → c < upto → IsWordOf shape.period (clock_at shape.clocks c) xs (assigned words c)
  pub short : (c : ℕ) → c < upto → (clock_at shape.clocks c).used ≡ true → IsWrittenLong shape.period (clock_at shape.clocks c) xs → ⊥
  pub stored : (c : ℕ) → c < upto → IsStored (assigned words c)

-- the limit Word where some clock's word is written too long, else Bits
abbrev pub PassesFirst : Shape → List ℤ → Limit → Type 0
PassesFirst shape xs passed = ((passed ≡ limit.Word) × HasLongWord shape xs) ⊎ ((passed ≡ limit.Bits) × (HasLongWord shape xs → ⊥))
