-- A loop that changes the elements of a list one after another.
use Rattle.std.proofs.Common.{ℕ, ◌+◌, ◌<◌, ◌≤◌, ◌≡◌, List, length, get_or, set, ap, sym, ◌∙◌, subst, inl, inr, arith}
use Rattle.std.proofs.lemmas.Bool.{cases_eq, cases_lt}
use Rattle.std.proofs.lemmas.List.{length-set, get_or-set_same, get_or-set_other, get_or_default}

-- the first elements, so many of them, are changed, and the others are as they were
pub record IsChangedTo {X : Type 0} (changed : X → X → Type 0) (xs ys : List X) (n : ℕ) : Type 0 where
  pub as_many : length ys ≡ length xs
  pub done : (k : ℕ) (d : X) → k < n → changed (get_or xs k d) (get_or ys k d)
  pub rest : (k : ℕ) (d : X) → n ≤ k → get_or ys k d ≡ get_or xs k d

-- the element at a place that was set
set_there : {X : Type 0} (ys : List X) (n k : ℕ) (y d : X) → n < length ys → k ≡ n → get_or (set ys n y) k d ≡ y
set_there ys n k y d l same = ap (λ i. get_or (set ys n y) i d) same ∙ get_or-set_same ys n y d l

pub one_changed : {X : Type 0} (changed : X → X → Type 0) (xs ys : List X) (n : ℕ) (x y : X) → IsChangedTo changed xs ys n → n < length ys → x ≡ get_or ys n x → changed x y → IsChangedTo changed xs (set ys n y) (n + 1)
one_changed changed xs ys n x y to l is one = record {
  as_many = length-set ys n y ∙ to.as_many;
  done = λ k d m. elim (cases_eq k n) [
    | inl same ↦
        let was : x ≡ get_or xs k d = is ∙ to.rest n x (omega arith) ∙ get_or_default xs n x d (omega (arith, to.as_many)) ∙ ap (λ i. get_or xs i d) (sym same) in
        subst (changed (get_or xs k d)) (sym (set_there ys n k y d l same)) (subst (λ z. changed z y) was one)
    | inr other ↦ subst (changed (get_or xs k d)) (sym (get_or-set_other ys n k y d other)) (to.done k d (omega arith))
  ];
  rest = λ k d m. (let other : k ≡ n → ⊥ = λ same. absurd (omega arith) in get_or-set_other ys n k y d other ∙ to.rest k d (omega arith));
}

pub all_changed : {X : Type 0} (changed : X → X → Type 0) (xs ys : List X) (n : ℕ) → IsChangedTo changed xs ys n → length xs ≤ n → (k : ℕ) (d : X) → k < length xs → changed (get_or xs k d) (get_or ys k d)
all_changed changed xs ys n to all k d l = to.done k d (omega arith)

-- where the change at one place is only a weaker one, all have the weaker one
pub cut_short : {X : Type 0} (changed weaker : X → X → Type 0) (xs ys : List X) (n : ℕ) (x y : X) → ((a b : X) → changed a b → weaker a b) → ((a : X) → weaker a a) →
    IsChangedTo changed xs ys n → n < length ys → x ≡ get_or ys n x → weaker x y → (k : ℕ) (d : X) → k < length xs → weaker (get_or xs k d) (get_or (set ys n y) k d)
cut_short changed weaker xs ys n x y less same to l is one k d m = elim (cases_eq k n) [
  | inl here ↦
      let was : x ≡ get_or xs k d = is ∙ to.rest n x (omega arith) ∙ get_or_default xs n x d (omega (arith, to.as_many)) ∙ ap (λ i. get_or xs i d) (sym here) in
      subst (weaker (get_or xs k d)) (sym (set_there ys n k y d l here)) (subst (λ z. weaker z y) was one)
  | inr other ↦ subst (weaker (get_or xs k d)) (sym (get_or-set_other ys n k y d other)) (elim (cases_lt k n) [
    | inl below ↦ less (get_or xs k d) (get_or ys k d) (to.done k d below)
    | inr past ↦ subst (weaker (get_or xs k d)) (sym (to.rest k d past)) (same (get_or xs k d))
  ])
]
