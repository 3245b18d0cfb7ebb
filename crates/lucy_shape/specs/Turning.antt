-- Counts and the places that belong to them.
use Rattle.std.specs.Prelude.{ℕ, ◌+◌, ◌≤◌, ◌≡◌}
use Rattle.lucy_word.specs.Bits.{Bits, ones_to}

-- the k-th one stands no later than instant i exactly where there are k ones up to it
pub record IsInverse (count index : ℕ → ℕ) : Type 0 where
  pub there : (k i : ℕ) → index k ≤ i → k ≤ count i
  pub first : (k i : ℕ) → k ≤ count i → index k ≤ i

-- counts never fall
abbrev pub Rises : (ℕ → ℕ) → Type 0
Rises count = (i j : ℕ) → i ≤ j → count i ≤ count j

-- from `from` on, `length` more instants bring `ones` more ones
abbrev pub Turns : (ℕ → ℕ) → ℕ → ℕ → ℕ → Type 0
Turns count from length ones = (i : ℕ) → from ≤ i → count (i + length) ≡ count i + ones

-- the ones of `a on w`, as their law counts them
abbrev pub ones_on : Bits → Bits → ℕ → ℕ
ones_on a w i = ones_to w (ones_to a i)
