-- The shortest form of a word.
use Rattle.std.specs.Prelude.{ℕ, ◌<◌, ◌≤◌, ◌≡◌, length}
use Rattle.lucy_word.specs.Bits.{Bits, bit_at}

-- the same bits at every instant
abbrev pub Same : Bits → Bits → Type 0
Same v w = (i : ℕ) → 0 < i → bit_at v i ≡ bit_at w i

-- no word with the same bits has a shorter period, nor, with a period as short, a shorter prefix
pub record IsShortest (w : Bits) : Type 0 where
  pub period : (v : Bits) → 0 < length v.period → Same v w → length w.period ≤ length v.period
  pub prefix : (v : Bits) → length v.period ≡ length w.period → Same v w → length w.prefix ≤ length v.prefix

-- w is the shortest word with the bits of v
pub record IsShortForm (v w : Bits) : Type 0 where
  pub nonempty : 0 < length w.period
  pub same : Same v w
  pub shortest : IsShortest w
