-- What holds of each element of lists that are made piece by piece.
use Rattle.std.proofs.Common.{ℕ, ◌+◌, ◌<◌, ◌≤◌, zero, suc, List, map, inl, inr, subst, arith}
use Rattle.std.specs.List.{AllByRecursion, range_with_len, flat_map}
use Rattle.std.proofs.lemmas.Bool.{cases_eq}
use Rattle.lucy_word.proofs.Lists.{all_join}
use Rattle.lucy_need.proofs.AllLaws.{all_front, all_back}

pub all_map : {A : Type 0} (P : A → Type 0) (f : ℕ → A) (a n : ℕ) → ((j : ℕ) → a ≤ j → j < a + n → P (f j)) → AllByRecursion P (map f (range_with_len a n))
all_map P f a zero h = tt
all_map P f a (suc n) h = (h a (omega arith) (omega arith), all_map P f (a + 1) n (λ j l k. h j (omega arith) (omega arith)))

pub all_map_at : {A : Type 0} (P : A → Type 0) (f : ℕ → A) (a n : ℕ) → AllByRecursion P (map f (range_with_len a n)) → (j : ℕ) → a ≤ j → j < a + n → P (f j)
all_map_at P f a zero h j l k = absurd (omega arith)
all_map_at P f a (suc n) h j l k = elim (cases_eq a j) [
  | inl e ↦ subst (λ (i : ℕ). P (f i)) e h.0
  | inr e ↦ all_map_at P f (a + 1) n h.1 j (omega arith) (omega arith)
]

pub all_flat : {A : Type 0} (P : A → Type 0) (f : ℕ → List A) (a n : ℕ) → ((j : ℕ) → a ≤ j → j < a + n → AllByRecursion P (f j)) → AllByRecursion P (flat_map f (range_with_len a n))
all_flat P f a zero h = tt
all_flat P f a (suc n) h = all_join P (f a) (flat_map f (range_with_len (a + 1) n)) (h a (omega arith) (omega arith)) (all_flat P f (a + 1) n (λ j l k. h j (omega arith) (omega arith)))

pub all_flat_at : {A : Type 0} (P : A → Type 0) (f : ℕ → List A) (a n : ℕ) → AllByRecursion P (flat_map f (range_with_len a n)) → (j : ℕ) → a ≤ j → j < a + n → AllByRecursion P (f j)
all_flat_at P f a zero h j l k = absurd (omega arith)
all_flat_at P f a (suc n) h j l k = elim (cases_eq a j) [
  | inl e ↦ subst (λ (i : ℕ). AllByRecursion P (f i)) e (all_front P (f a) (flat_map f (range_with_len (a + 1) n)) h)
  | inr e ↦ all_flat_at P f (a + 1) n (all_back P (f a) (flat_map f (range_with_len (a + 1) n)) h) j (omega arith) (omega arith)
]
