-- Where two words part.
use Rattle.std.specs.Prelude.{ℕ, ◌<◌, ◌≡◌}
use Rattle.lucy_word.specs.Bits.{Bits, bit_at}

-- the first instant at which the bits differ
pub record IsFirstDifference (a b : Bits) (at : ℕ) : Type 0 where
  pub instant : 0 < at
  pub differs : bit_at a at ≡ bit_at b at → ⊥
  pub first : (i : ℕ) → 0 < i → i < at → bit_at a i ≡ bit_at b i
