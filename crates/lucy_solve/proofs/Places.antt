-- Lists and functions after one write, at each place.
use Rattle.std.proofs.Common.{inl, inr, ◌≡◌, ℕ, ◌+◌, ◌<◌, ◌⊎◌, List, length, get_or, set, replicate, cond, eqb, sum, ap, ◌∙◌, arith}
use Rattle.std.proofs.lemmas.Bool.{cases_eq}
use Rattle.std.proofs.lemmas.Bool.Decides.{nat_tests}
use Rattle.std.proofs.lemmas.List.{get_or-set_same, get_or-set_other, get_or-replicate}
use Rattle.std.proofs.lemmas.List.Sums.{sum_by-set}

pub put : (ℕ → ℕ) → ℕ → ℕ → ℕ → ℕ
put f r y v = cond (eqb v r) y (f v)

pub put_same : (f : ℕ → ℕ) (r y v : ℕ) → v ≡ r → put f r y v ≡ y
unfolding put
put_same f r y v e = grind (arith, nat_tests)

pub put_other : (f : ℕ → ℕ) (r y v : ℕ) → (v ≡ r → ⊥) → put f r y v ≡ f v
unfolding put
put_other f r y v e = grind (arith, nat_tests)

-- the list after a write, at one place
pub at_set : (xs : List ℕ) (r y v : ℕ) → r < length xs → ((v ≡ r) × (get_or (set xs r y) v 0 ≡ y)) ⊎ ((v ≡ r → ⊥) × (get_or (set xs r y) v 0 ≡ get_or xs v 0))
at_set xs r y v h = elim (cases_eq v r) [
  | inl e ↦ inl (e, ap (λ k. get_or (set xs r y) k 0) e ∙ get_or-set_same xs r y 0 h)
  | inr n ↦ inr (n, get_or-set_other xs r v y 0 n)
]

pub first_at : (n v y : ℕ) → v < n → get_or (replicate n y) v 0 ≡ y
first_at n v y h = get_or-replicate n v y 0 h

pub sum_set : (xs : List ℕ) (i y : ℕ) → i < length xs → sum (set xs i y) + get_or xs i 0 ≡ sum xs + y
sum_set xs i y h = sum_by-set (λ n. n) xs i y 0 h
