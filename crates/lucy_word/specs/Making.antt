-- What bits are made into: a word, or one refusal.
use Rattle.std.specs.Prelude.{◌⊎◌, ◌<◌, ◌≤◌, ◌≡◌, Result, Ok, Err}
use Rattle.lucy_word.specs.Bits.{Bits, ones_in, bit_count, most_bits}
use Rattle.lucy_word.specs.Shortest.{IsShortForm}
use Rattle.lucy_word.specs.declared.error.WordError.{WordError}
use Rattle.lucy_word.specs.declared.error.WordError.TheVariants.{BadWord, TooLong, NoOne, OutOfMemory}

-- the bits are no more than a word may have, with a one in the period, and w is their shortest form
pub record IsMade (bits w : Bits) : Type 0 where
  pub short : bit_count bits ≤ most_bits
  pub has_one : 0 < ones_in bits.period
  pub form : IsShortForm bits w

-- the bits are refused so: for their number, else for their period (never for want of memory)
abbrev pub Unmakes : Bits → WordError → Type 0
Unmakes bits (BadWord place) = ⊥
Unmakes bits TooLong = most_bits < bit_count bits
Unmakes bits NoOne = (bit_count bits ≤ most_bits) × (ones_in bits.period ≡ 0)
Unmakes bits OutOfMemory = ⊥

-- the bits are answered so
abbrev pub Makes : Bits → Result Bits WordError → Type 0
Makes bits (Ok w) = IsMade bits w
Makes bits (Err e) = Unmakes bits e

-- the answer is the one answer to the bits, unless memory ran out
abbrev pub OnlyMade : Bits → Result Bits WordError → Type 0
OnlyMade bits given = (answer : Result Bits WordError) → Makes bits answer → (given ≡ Err OutOfMemory) ⊎ (given ≡ answer)
