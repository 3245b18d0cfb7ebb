-- The shortest form of a word, found by trying: first the least turn, then the least prefix.
use Rattle.std.specs.Prelude.{ℕ, suc, zero, ◌+◌, Bool, true, List, [], ◌∷◌, length, if◌then◌else◌, nat_le, ◌&&◌}
use Rattle.lucy_word.specs.Bits.{Bits, bit_at, bit_count}
use Rattle.lucy_word.specs.Spelling.{same_bit}
use Rattle.lucy_word.specs.Partials.{expanded}

-- the test holds of each number below this one
abbrev pub every : (ℕ → Bool) → ℕ → Bool
every f zero = true
every f (suc n) = every f n && f n

-- the least number from n on of which the test holds, tried so many times
abbrev pub least : (ℕ → Bool) → ℕ → ℕ → ℕ
least f zero n = n
least f (suc more) n = if f n then n else least f more (n + 1)

-- past instant k the bits come again after p more, as far as prefix and period go
abbrev pub comes_again : Bits → ℕ → ℕ → Bool
comes_again w k p = every (λ i. if nat_le k i then same_bit (bit_at w (i + 1 + p)) (bit_at w (i + 1)) else true) (bit_count w)

-- the least turn with which the bits behind the prefix come again
abbrev pub turn_of : Bits → ℕ
turn_of w = least (comes_again w (length w.prefix)) (length w.period) 1

-- the least prefix behind which they come again with this turn
abbrev pub kept_of : Bits → ℕ
kept_of w = least (λ k. comes_again w k (turn_of w)) (length w.prefix) 0

-- so many bits past instant i
abbrev pub bits_past : Bits → ℕ → ℕ → List Bool
bits_past w i zero = []
bits_past w i (suc n) = bit_at w (i + 1) ∷ bits_past w (i + 1) n

-- the word's shortest form
unfoldable pub shortened : Bits → Bits
shortened w = record { prefix = bits_past w 0 (kept_of w); period = bits_past w (kept_of w) (turn_of w) }

-- the word that a text spells, where it spells one
abbrev pub word_of : List ℕ → Bits
word_of text = shortened (expanded text)
