-- A word with every bit turned.
use Rattle.std.specs.Prelude.{ℕ, ◌<◌, ◌≡◌, map, not}
use Rattle.lucy_word.specs.Bits.{Bits, bit_at}

-- at every instant w has the bit that a has not
abbrev pub IsComplement : Bits → Bits → Type 0
IsComplement a w = (i : ℕ) → 0 < i → bit_at w i ≡ not (bit_at a i)

-- the prefix and the period of a word with every bit turned
abbrev pub turned : Bits → Bits
turned w = record { prefix = map not w.prefix; period = map not w.period }
