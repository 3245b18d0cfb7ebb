-- How many items wait in one buffer, as inequalities: its items are written by one clock and read by another, both alone in a need.
use Rattle.std.specs.Prelude.{ℕ, ◌+◌, ◌≤◌, ◌↔◌, List, ◌++◌, map, ℤ}
use Rattle.std.specs.List.{range_with_len, AllByRecursion, Contains}
use Rattle.lucy_word.specs.Bits.{Bits, ones_to}
use Rattle.lucy_need.specs.Meeting.{Assignment, MeetsAll, alone}
use Rattle.lucy_need.specs.declared.need.Need.TheVariants.{Adapt}
use Rattle.lucy_need.specs.declared.need.Needs.{Needs}
use Rattle.lucy_solve.specs.declared.diffs.Diff.{Diff}
use Rattle.lucy_solve.specs.System.{DifferenceSystem, Solves}
use Rattle.lucy_shape.specs.declared.shape.ClockShape.{ClockShape}
use Rattle.lucy_shape.specs.declared.shape.Shape.{Shape}
use Rattle.lucy_need.specs.Stored.{HasWords}
use Rattle.lucy_shape.specs.Fitting.{clock_at, variable_count, IsShapeFor, IsFitting, ArePositions}
use Rattle.lucy_shape.specs.Rows.{row}
use Rattle.lucy_shape.specs.Inequalities.{instances, inequalities}

-- position k of the reading clock stands no later than position k + size of the writing clock, both folded
abbrev pub size_row : ℕ → List ClockShape → (from to size k : ℕ) → Diff
size_row P clocks from to size k = row P (clock_at clocks to) k (clock_at clocks from) (k + size)

-- one for each instance of the buffer's need: how many there are doesn't depend on the size
abbrev pub size_rows : ℕ → List ClockShape → (from to size : ℕ) → List Diff
size_rows P clocks from to size = map (size_row P clocks from to size) (range_with_len 1 (instances clocks (alone from) (alone to)))

-- the table of the clocks and the needs, and after it the rows of the size
abbrev pub sized_inequalities : Needs → Shape → (from to size : ℕ) → List Diff
sized_inequalities needs shape from to size = inequalities needs shape ++ size_rows shape.period shape.clocks from to size

-- that table between the variables
abbrev pub sized_system : Needs → Shape → (from to size : ℕ) → DifferenceSystem
sized_system needs shape from to size = record { count = variable_count shape.clocks; list = sized_inequalities needs shape from to size }

-- at every instant no more than so many of the items that a gave are still to be taken by b
abbrev pub HasSizeWithin : Bits → Bits → ℕ → Type 0
HasSizeWithin a b size = (i : ℕ) → ones_to a i ≤ ones_to b i + size

-- the assignment meets the needs, and no more than so many items wait between the two clocks
abbrev pub MeetsWithin : Needs → (from to size : ℕ) → Assignment → Type 0
MeetsWithin needs from to size w = MeetsAll w needs.list × HasSizeWithin (w from) (w to) size

-- an assignment that fits meets the needs with no more than so many items waiting exactly where its positions solve that table
abbrev pub SizedLaw : Type 0
SizedLaw = (needs : Needs) (shape : Shape) (w : Assignment) (xs : List ℤ) (from to size : ℕ) → AllByRecursion HasWords needs.list → IsShapeFor needs shape →
    IsFitting shape w → ArePositions shape w xs → Contains needs.list (Adapt (alone from) (alone to)) →
    (MeetsWithin needs from to size w ↔ Solves (sized_system needs shape from to size) xs)
