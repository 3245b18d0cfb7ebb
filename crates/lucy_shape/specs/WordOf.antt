-- The word of a clock, from the numbers of its variables: it has ones at its positions, and each period further.
use Rattle.std.specs.Prelude.{ℕ, zero, suc, ◌+◌, ◌-◌, ◌*◌, ◌/◌, ◌%◌, ◌==◌, ◌||◌, cond, nat_le, Bool, List, map, ℤ, pos, negsuc}
use Rattle.std.specs.List.{range_with_len}
use Rattle.lucy_word.specs.Bits.{Bits}
use Rattle.lucy_solve.specs.System.{value}
use Rattle.lucy_shape.specs.declared.shape.ClockShape.{ClockShape}

-- a number that is at least 0
abbrev pub natural : ℤ → ℕ
natural (pos n) = n
natural (negsuc n) = 0

-- the number of a clock's variable, position by position, and 0 before them
unfoldable pub numbers : List ℤ → ℕ → ℕ → ℕ
numbers xs first zero = 0
numbers xs first (suc m) = natural (value xs (first + m))

-- the numbers of positions 1 to n + q, and past them those of q positions before, a period later
abbrev pub continued : (ℕ → ℕ) → ℕ → ℕ → ℕ → ℕ → ℕ
continued x n q P m = cond (nat_le m n) (x m) (x (n + 1 + (m - n - 1) % q) + (m - n - 1) / q * P)

-- every position of a clock
abbrev pub positions_of : ℕ → ClockShape → List ℤ → ℕ → ℕ
positions_of P c xs = continued (numbers xs c.first) c.lead c.ones P

-- the instant is one of the positions 0 to n
abbrev pub at_position : (ℕ → ℕ) → ℕ → ℕ → Bool
at_position X i zero = X zero == i
at_position X i (suc n) = (X (suc n) == i) || at_position X i n

-- the bits before the first position past the lead, and then those of one period (position i comes no earlier than instant i)
abbrev pub word_at : (ℕ → ℕ) → ℕ → ℕ → Bits
word_at X n P = record {
  prefix = map (λ i. at_position X i i) (range_with_len 1 (X (n + 1) - 1));
  period = map (λ i. at_position X i i) (range_with_len (X (n + 1)) P);
}

-- a clock's word as its positions write it, before it is brought into shortest form
abbrev pub written_word : ℕ → ClockShape → List ℤ → Bits
written_word P c xs = word_at (positions_of P c xs) c.lead P
