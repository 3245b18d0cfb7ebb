-- Bits that come again and again.
use Rattle.std.specs.Prelude.{ℕ, ◌+◌, ◌<◌, ◌≡◌, Bool, List, [], length}
use Rattle.lucy_word.specs.Bits.{Bits, bit_at}

-- past instant k the bits come again after p more
abbrev pub Repeats : (f : ℕ → Bool) (k p : ℕ) → Type 0
Repeats f k p = (i : ℕ) → k < i → f (i + p) ≡ f i

-- the word with no prefix and this period
abbrev pub turning : List Bool → Bits
turning period = record { prefix = []; period = period }

-- past instant k the word goes on as the period does past its bit at `from`
abbrev pub GoesOnAs : (w : Bits) (k : ℕ) (period : List Bool) (from : ℕ) → Type 0
GoesOnAs w k period from = (i : ℕ) → 0 < i → bit_at w (k + i) ≡ bit_at (turning period) (from + i)

-- the bits do not come again after a period from before instant k on, or k is 0
abbrev pub EndsAt : (w : Bits) (k : ℕ) → Type 0
EndsAt w k = 0 < k → bit_at w (k + length w.period) ≡ bit_at w k → ⊥
