-- The shape of inferred clocks, and the assignments of words that fit it.
use Rattle.std.specs.Prelude.{ℕ, ◌+◌, ◌-◌, ◌*◌, ◌/◌, ◌<◌, ◌≤◌, ◌≡◌, true, false, if◌then◌else◌, List, length, take, slice_index_or, sum_by, ℤ, pos}
use Rattle.std.specs.List.{AllByRecursion}
use Prim.Native.Nat.{◌∣◌}
use Rattle.lucy_word.specs.Bits.{ones_in}
use Rattle.lucy_word.specs.Shortest.{Same}
use Rattle.lucy_word.specs.Always.{always}
use Rattle.lucy_word.specs.Limits.{limit_number}
use Rattle.lucy_word.specs.declared.limit.Limit.TheVariants as limit
use Rattle.lucy_need.specs.Meeting.{Assignment, AreWordsIn}
use Rattle.lucy_need.specs.declared.need.Term.{Term}
use Rattle.lucy_need.specs.declared.need.Need.{Need}
use Rattle.lucy_need.specs.declared.need.Need.TheVariants.{Equal, Adapt}
use Rattle.lucy_need.specs.declared.need.Needs.{Needs}
use Rattle.lucy_solve.specs.System.{value}
use Rattle.lucy_shape.specs.declared.shape.ClockShape.{ClockShape}
use Rattle.lucy_shape.specs.declared.shape.Shape.{Shape}
use Rattle.lucy_shape.specs.Index.{index_of, Recurs}

-- what stands past the end of a list of shapes
abbrev pub unused : ClockShape
unused = record { used = false; lead = 0; ones = 0; first = 0 }

-- the shape of the clock of this number
abbrev pub clock_at : List ClockShape → ℕ → ClockShape
clock_at clocks c = slice_index_or clocks c unused

-- the clock of this number has positions
abbrev pub IsUsed : List ClockShape → ℕ → Type 0
IsUsed clocks c = (c < length clocks) × ((clock_at clocks c).used ≡ true)

-- past its lead, each clock has its ones again a period later
abbrev pub FitsShape : Assignment → Shape → Type 0
FitsShape w shape = (c : ℕ) → IsUsed shape.clocks c → Recurs (index_of (w c)) (clock_at shape.clocks c).lead (clock_at shape.clocks c).ones shape.period

-- an assignment that fits the shape, with words for all clocks and (1) for the base
pub record IsFitting (shape : Shape) (w : Assignment) : Type 0 where
  pub words : AreWordsIn w (length shape.clocks)
  pub base : Same (w 0) always
  pub fits : FitsShape w shape

-- how many positions a clock has: those of its lead, and then those of one period
abbrev pub position_count : ClockShape → ℕ
position_count c = if c.used then c.lead + c.ones else 0

-- how many variables there are: the origin, and the positions of the clocks
abbrev pub variable_count : List ClockShape → ℕ
variable_count clocks = 1 + sum_by position_count clocks

-- the variable of a position of a clock, from 1 on
abbrev pub variable_of : ClockShape → ℕ → ℕ
variable_of c m = c.first + m - 1

-- so many positions the clocks of a node have at most
abbrev pub most_positions : ℕ
most_positions = limit_number limit.Positions

-- the variables of the clocks follow one another, and each clock has ones in the period, the base one at each instant
pub record IsLaidOut (shape : Shape) : Type 0 where
  pub some : 0 < shape.period
  pub short : shape.period ≤ most_positions
  pub ones : (c : ℕ) → IsUsed shape.clocks c → 0 < (clock_at shape.clocks c).ones
  pub base : IsUsed shape.clocks 0 → (clock_at shape.clocks 0).ones ≡ shape.period
  pub first : (c : ℕ) → IsUsed shape.clocks c → (clock_at shape.clocks c).first ≡ variable_count (take c shape.clocks)
  pub few : variable_count shape.clocks ≤ 1 + most_positions

-- how many ones a term has in a period of the shape
abbrev pub turn_instances : List ClockShape → Term → ℕ
turn_instances clocks t = (clock_at clocks t.clock).ones * ones_in t.word.period / length t.word.period

-- the terms are of clocks with positions, whose ones in a period are whole periods of the terms' words; both have as many ones in it
pub record AreCarried (clocks : List ClockShape) (s t : Term) : Type 0 where
  pub first_used : IsUsed clocks s.clock
  pub second_used : IsUsed clocks t.clock
  pub first_whole : length s.word.period ∣ (clock_at clocks s.clock).ones
  pub second_whole : length t.word.period ∣ (clock_at clocks t.clock).ones
  pub same : turn_instances clocks s ≡ turn_instances clocks t

-- so are the terms of the need
abbrev pub IsCarried : List ClockShape → Need → Type 0
IsCarried clocks (Equal s t) = AreCarried clocks s t
IsCarried clocks (Adapt s t) = AreCarried clocks s t

-- a shape that carries the needs
pub record IsShapeFor (needs : Needs) (shape : Shape) : Type 0 where
  pub clocks : length shape.clocks ≡ needs.clocks
  pub laid : IsLaidOut shape
  pub carried : AllByRecursion (IsCarried shape.clocks) needs.list

-- at the variables of the clock's positions stand the instants of these ones
pub record HasPositions (c : ClockShape) (index : ℕ → ℕ) (xs : List ℤ) : Type 0 where
  pub at : (m : ℕ) → 0 < m → m ≤ c.lead + c.ones → value xs (variable_of c m) ≡ pos (index m)

-- the numbers are the positions of the assignment, with 0 for the origin
pub record ArePositions (shape : Shape) (w : Assignment) (xs : List ℤ) : Type 0 where
  pub size : length xs ≡ variable_count shape.clocks
  pub origin : value xs 0 ≡ pos 0
  pub at : (c : ℕ) → IsUsed shape.clocks c → HasPositions (clock_at shape.clocks c) (index_of (w c)) xs
