-- Sums over the first numbers.
use Rattle.std.proofs.Common.{ℕ, suc, zero, ◌+◌, ◌<◌, ◌≡◌, subst, inl, inr, arith}
use Rattle.std.proofs.lemmas.Bool.{cases_eq}

-- the sum of a function's values at the first n numbers
abbrev pub sum_to : ℕ → (ℕ → ℕ) → ℕ
sum_to zero f = 0
sum_to (suc n) f = sum_to n f + f n

sum_to-same : (n : ℕ) (f g : ℕ → ℕ) → ((k : ℕ) → k < n → f k ≡ g k) → sum_to n f ≡ sum_to n g
sum_to-same zero f g h = omega arith
sum_to-same (suc n) f g h = omega (arith, sum_to-same n f g (λ k l. h k (omega arith)), h n (omega arith))

-- where one value is one less, the sum is
pub sum_to-less : (n i : ℕ) (f g : ℕ → ℕ) → i < n → f i ≡ g i + 1 → ((k : ℕ) → k < n → (k ≡ i → ⊥) → f k ≡ g k) → sum_to n f ≡ sum_to n g + 1
sum_to-less zero i f g l e h = absurd (omega arith)
sum_to-less (suc n) i f g l e h = elim (cases_eq i n) [
  | inl same ↦
      let rest : sum_to n f ≡ sum_to n g = sum_to-same n f g (λ k b. h k (omega arith) (λ (x : k ≡ i). absurd (omega arith))) in
      let here : f n ≡ g n + 1 = subst (λ (k : ℕ). f k ≡ g k + 1) same e in
      omega arith
  | inr other ↦
      let here : f n ≡ g n = h n (omega arith) (λ (x : n ≡ i). absurd (omega arith)) in
      omega (arith, sum_to-less n i f g (omega arith) e (λ k b ne. h k (omega arith) ne))
]
