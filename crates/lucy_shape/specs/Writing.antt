-- What positions are answered: the words of the clocks, or the limit that they pass.
use Rattle.std.specs.Prelude.{ℕ, ◌<◌, ◌≤◌, ◌≡◌, ◌⊎◌, false, true, List, length, ℤ}
use Rattle.lucy_word.specs.Bits.{Bits, bit_count, most_bits}
use Rattle.lucy_word.specs.Shortest.{IsShortForm}
use Rattle.lucy_word.specs.Always.{always}
use Rattle.lucy_word.specs.Limits.{limit_number}
use Rattle.lucy_word.specs.declared.limit.Limit.TheVariants as limit
use Rattle.lucy_need.specs.Meeting.{assigned, word_bits}
use Rattle.lucy_shape.specs.declared.shape.ClockShape.{ClockShape}
use Rattle.lucy_shape.specs.declared.shape.Shape.{Shape}
use Rattle.lucy_shape.specs.declared.shape.RateFault.{RateFault}
use Rattle.lucy_shape.specs.declared.shape.RateFault.TheVariants as fault
use Rattle.lucy_shape.specs.Fitting.{clock_at, IsUsed}
use Rattle.lucy_shape.specs.WordOf.{written_word}

-- the word of a clock, in shortest form: (1) where it has no positions
pub record IsWordOf (P : ℕ) (c : ClockShape) (xs : List ℤ) (w : Bits) : Type 0 where
  pub used : c.used ≡ true → IsShortForm (written_word P c xs) w
  pub unused : c.used ≡ false → IsShortForm always w

-- the words of the clocks, by their numbers
pub record AreWordsOf (shape : Shape) (xs : List ℤ) (words : List Bits) : Type 0 where
  pub size : length words ≡ length shape.clocks
  pub each : (c : ℕ) → c < length words → IsWordOf shape.period (clock_at shape.clocks c) xs (assigned words c)

-- a clock's word is written with more bits than a word may have
abbrev pub IsWrittenLong : ℕ → ClockShape → List ℤ → Type 0
IsWrittenLong P c xs = most_bits < bit_count (written_word P c xs)

-- some clock's word is
abbrev pub HasLongWord : Shape → List ℤ → Type 0
HasLongWord shape xs = (c : ℕ) × IsUsed shape.clocks c × IsWrittenLong shape.period (clock_at shape.clocks c) xs

-- so many bits the words of a node's clocks have at most, in shortest form
abbrev pub most_word_bits : ℕ
most_word_bits = limit_number limit.Bits

-- the words, none of which is written too long, with no more bits than are allowed
pub record AreAnswered (shape : Shape) (xs : List ℤ) (words : List Bits) : Type 0 where
  pub each : AreWordsOf shape xs words
  pub short : HasLongWord shape xs → ⊥
  pub few : word_bits words ≤ most_word_bits

-- why there are no words: one is written too long, else they have too many bits together; or memory ran out
abbrev pub AreRefused : Shape → List ℤ → RateFault → Type 0
AreRefused shape xs e = (e ≡ fault.OutOfMemory) ⊎ ((e ≡ fault.Limit limit.Word) × HasLongWord shape xs)
    ⊎ ((e ≡ fault.Limit limit.Bits) × (HasLongWord shape xs → ⊥) × ((words : List Bits) × AreWordsOf shape xs words × (most_word_bits < word_bits words)))
