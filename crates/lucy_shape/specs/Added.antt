-- Rows that are put behind others, and what the calls that put them rely on.
use Rattle.std.specs.Prelude.{ℕ, ◌+◌, ◌*◌, ◌<◌, ◌≤◌, ◌≡◌, ◌++◌, List, length, slice_index}
use Prim.Native.Nat.{◌∣◌}
use Rattle.lucy_word.specs.Bits.{Bits, IsWord, most_bits}
use Rattle.lucy_solve.specs.declared.diffs.Diff.{Diff}
use Rattle.lucy_solve.specs.System.{DifferenceSystem, most_constant}
use Rattle.lucy_shape.specs.declared.shape.ClockShape.{ClockShape}
use Rattle.lucy_shape.specs.Fitting.{most_positions, clock_at}
use Rattle.lucy_shape.specs.Index.{index_of}
use Rattle.lucy_shape.specs.Rows.{turns_of}
use Rattle.lucy_need.specs.declared.need.Term.{Term}
use Rattle.lucy_need.specs.declared.need.Need.{Need}
use Rattle.lucy_need.specs.declared.need.Need.TheVariants.{Equal, Adapt}

-- the rows, behind those that were there
abbrev pub with_rows : DifferenceSystem → List Diff → DifferenceSystem
with_rows system rows = record { count = system.count; list = system.list ++ rows }

-- a clock whose positions are among so many variables
pub record IsPlaced (count : ℕ) (c : ClockShape) : Type 0 where
  pub some : 0 < c.ones
  pub first : 0 < c.first
  pub within : c.first + c.lead + c.ones ≤ count

-- a term whose instances are positions of its clock
pub record IsSpreadable (count : ℕ) (c : ClockShape) (u : Bits) : Type 0 where
  pub placed : IsPlaced count c
  pub word : IsWord u
  pub short : length u.prefix ≤ most_bits
  pub whole : length u.period ∣ c.ones

-- there are few variables, and the period is short
pub record IsSmall (P count : ℕ) : Type 0 where
  pub short : P ≤ most_positions
  pub few : count ≤ 1 + most_positions

-- a position of a clock that can be folded, by fewer instants than the greatest constant
pub record IsFoldable (P : ℕ) (c : ClockShape) (m : ℕ) : Type 0 where
  pub placed : IsPlaced (1 + most_positions) c
  pub some : 0 < m
  pub fits : turns_of c m * P < most_constant

-- at the first so many places of the list stand the positions of the word's first ones
pub record AreFirsts (w : Bits) (count : ℕ) (list : List ℕ) : Type 0 where
  pub within : count ≤ length list
  pub at : (k : ℕ) → k < count → slice_index list k ≡ index_of w (k + 1)

-- both terms are such, of clocks that are there
abbrev pub AreTermsSpreadable : ℕ → List ClockShape → Term → Term → Type 0
AreTermsSpreadable count clocks s t = (s.clock < length clocks) × (t.clock < length clocks) × IsSpreadable count (clock_at clocks s.clock) s.word × IsSpreadable count (clock_at clocks t.clock) t.word

-- both terms of the need
abbrev pub IsNeedSpreadable : ℕ → List ClockShape → Need → Type 0
IsNeedSpreadable count clocks (Equal s t) = AreTermsSpreadable count clocks s t
IsNeedSpreadable count clocks (Adapt s t) = AreTermsSpreadable count clocks s t
