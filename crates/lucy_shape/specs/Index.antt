-- Where the ones of a word stand, and what it is that they come again (Cohen and others 2006). Instants and ones count from 1.
use Rattle.std.specs.Prelude.{ℕ, zero, suc, ◌+◌, ◌*◌, ◌<◌, ◌≡◌, cond, nat_le, length}
use Rattle.lucy_word.specs.Bits.{Bits, ones_to}

-- the least i below n with a count of at least k, or n
abbrev pub least : (ℕ → ℕ) → ℕ → ℕ → ℕ
least count k zero = zero
least count k (suc n) = cond (nat_le k (count n)) (least count k n) (suc n)

-- the instant of a word's one of this number: the least with so many ones up to it, and 0 for number 0 (by the instant to which
-- it is looked for each word has so many)
abbrev pub index_of : Bits → ℕ → ℕ
index_of w k = least (ones_to w) k (length w.prefix + k * length w.period)

-- past position n, q positions further is P instants later
abbrev pub Recurs : (ℕ → ℕ) → ℕ → ℕ → ℕ → Type 0
Recurs index n q P = (m : ℕ) → n < m → index (m + q) ≡ index m + P
