-- What every word in memory is.
use Rattle.std.specs.Prelude.{◌<◌, ◌≤◌, length}
use Rattle.lucy_word.specs.Bits.{Bits, IsWord, bit_count, most_bits}
use Rattle.lucy_word.specs.Shortest.{IsShortest}

-- a word of no more bits than are allowed, in shortest form
pub record IsStored (w : Bits) : Type 0 where
  pub word : IsWord w
  pub nonempty : 0 < length w.period
  pub short : bit_count w ≤ most_bits
  pub shortest : IsShortest w
