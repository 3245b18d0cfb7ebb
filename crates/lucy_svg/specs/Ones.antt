-- How the items of a buffer are found from the marks of its words.
use Rattle.std.specs.Prelude.{ℕ, ◌+◌, ◌≤◌, ◌≡◌, List, Some, length, map, slice_get, slice_index, min}
use Rattle.std.specs.List.{range_with_len}
use Rattle.lucy_word.specs.Bits.{Bits, ones_to}
use Rattle.lucy_word.specs.Index.{IsIndex}
use Rattle.lucy_picture.specs.declared.fill.Fill.{Fill}
use Rattle.lucy_picture.specs.Charts.{marks_of}
use Rattle.lucy_svg.specs.declared.join.Join.{Join}
use Rattle.lucy_svg.specs.declared.flow.Flow.{Flow}
use Rattle.lucy_svg.specs.Flows.{IsFlow}

-- the instants up to this one at which a word has its ones, in order
pub record AreOnes (w : Bits) (shown : ℕ) (ones : List ℕ) : Type 0 where
  pub all : length ones ≡ ones_to w shown
  pub each : (k at : ℕ) → slice_get ones k ≡ Some at → IsIndex w (k + 1) at × (at ≤ shown)

-- the instant of a number of one list with that of the other
abbrev pub join_at : (written read : List ℕ) → ℕ → Join
join_at written read k = record { written = slice_index written k; read = slice_index read k }

-- as many as the shorter list has
abbrev pub joined : (written read : List ℕ) → List Join
joined written read = map (join_at written read) (range_with_len 0 (min (length written) (length read)))

-- how items go through a buffer, on whichever words its marks are
abbrev pub Follows : Fill → Flow → Type 0
Follows fill flow = (write read : Bits) (shown : ℕ) → fill.written ≡ marks_of write shown → fill.read ≡ marks_of read shown →
    IsFlow write read shown flow

-- one for each buffer
pub record AllFollow (fills : List Fill) (flows : List Flow) : Type 0 where
  pub all : length flows ≡ length fills
  pub each : (k : ℕ) (fill : Fill) (flow : Flow) → slice_get fills k ≡ Some fill → slice_get flows k ≡ Some flow → Follows fill flow
