-- What loops have seen, one number more.
use Rattle.std.proofs.Common.{ℕ, ◌+◌, ◌<◌, ◌≤◌, ◌≡◌, List, Some, get_or, sym, subst, inl, inr, arith}
use Rattle.std.specs.Prelude.{slice_get}
use Rattle.std.proofs.lemmas.Bool.{cases_eq}
use Rattle.std.proofs.lemmas.Option.{get_or_from_slice_get}

-- of two lists
pub both_more : (P : ℕ → ℕ → Type 0) (xs ys : List ℕ) (i : ℕ) → ((k x y : ℕ) → k < i → slice_get xs k ≡ Some x → slice_get ys k ≡ Some y → P x y) → P (get_or xs i 0) (get_or ys i 0) →
    (k x y : ℕ) → k < i + 1 → slice_get xs k ≡ Some x → slice_get ys k ≡ Some y → P x y
both_more P xs ys i before here k x y l e f = elim (cases_eq k i) [
  | inl same ↦
      let first : get_or xs i 0 ≡ x = get_or_from_slice_get xs i x 0 (subst (λ j. slice_get xs j ≡ Some x) same e) in
      let second : get_or ys i 0 ≡ y = get_or_from_slice_get ys i y 0 (subst (λ j. slice_get ys j ≡ Some y) same f) in
      subst (λ u. P u y) first (subst (λ v. P (get_or xs i 0) v) second here)
  | inr other ↦ before k x y (omega (arith, l, other)) e f
]

-- of numbers from 1 on
pub from_one_more : (P : ℕ → Type 0) (i : ℕ) → ((k : ℕ) → 1 ≤ k → k ≤ i → P k) → P (i + 1) → (k : ℕ) → 1 ≤ k → k ≤ i + 1 → P k
from_one_more P i before here k low high = elim (cases_eq k (i + 1)) [
  | inl same ↦ subst P (sym same) here
  | inr other ↦ before k low (omega (arith, high, other))
]
