-- The items of a buffer: the n-th that goes in is the n-th that comes out. Instants and items count from 1.
use Rattle.std.specs.Prelude.{ℕ, ◌+◌, ◌-◌, ◌≤◌, ◌≡◌, List, Some, slice_get}
use Rattle.lucy_word.specs.Bits.{Bits}
use Rattle.lucy_word.specs.Index.{IsIndex}
use Rattle.lucy_svg.specs.declared.join.Join.{Join}

-- the item of this number is written at the one of this number of one word and read at that of the other, both at instants that are shown
pub record IsJoin (write read : Bits) (shown number : ℕ) (join : Join) : Type 0 where
  pub some : 1 ≤ number
  pub goes_in : IsIndex write number join.written
  pub comes_out : IsIndex read number join.read
  pub write_shown : join.written ≤ shown
  pub read_shown : join.read ≤ shown

-- all such items, in order, and nothing else
pub record AreJoins (write read : Bits) (shown : ℕ) (joins : List Join) : Type 0 where
  pub each : (k : ℕ) (join : Join) → slice_get joins k ≡ Some join → IsJoin write read shown (k + 1) join
  pub all : (number : ℕ) (join : Join) → IsJoin write read shown number join → slice_get joins (number - 1) ≡ Some join
