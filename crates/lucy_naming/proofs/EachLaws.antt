-- What holds of each entry of a list, with its number.
use Rattle.std.proofs.Common.{◌≡◌, ◌+◌, ◌<◌, ℕ, zero, suc, List, [], ◌∷◌, ◌++◌, length, Some, slice_get, refl, subst, arith}
use Rattle.lucy_place.specs.Proper.{at_one}

-- P holds of each entry, where the first has this number
abbrev pub Each : {A : Type 0} → (ℕ → A → Type 0) → ℕ → List A → Type 0
Each P from [] = Unit {0}
Each P from (x ∷ xs) = P from x × Each P (from + 1) xs

module _ {A : Type 0} (P : ℕ → A → Type 0) where
  -- lists one behind the other
  pub each_join : (from to : ℕ) (xs ys : List A) → to ≡ from + length xs → Each P from xs → Each P to ys → Each P from (xs ++ ys)
  each_join from to [] ys e a b = let f : to ≡ from = omega (arith, e) in subst (λ t. Each P t ys) f b
  each_join from to (x ∷ xs) ys e a b = (a.0, each_join (from + 1) to xs ys (omega (arith, e)) a.1 b)

  pub each_front : (from : ℕ) (xs ys : List A) → Each P from (xs ++ ys) → Each P from xs
  each_front from [] ys h = tt
  each_front from (x ∷ xs) ys h = (h.0, each_front (from + 1) xs ys h.1)

  pub each_back : (from to : ℕ) (xs ys : List A) → to ≡ from + length xs → Each P from (xs ++ ys) → Each P to ys
  each_back from to [] ys e h = let f : from ≡ to = omega (arith, e) in subst (λ t. Each P t ys) f h
  each_back from to (x ∷ xs) ys e h = each_back (from + 1) to xs ys (omega (arith, e)) h.1

  -- an entry by its place in the list, and by its number
  pub each_at : (from : ℕ) (xs : List A) (i p : ℕ) (x : A) → p ≡ from + i → slice_get xs i ≡ Some x → Each P from xs → P p x
  each_at from [] i p x e g h = cc
  each_at from (y ∷ ys) zero p x e g h =
      let f : from ≡ p = omega (arith, e) in
      let same : y ≡ x = cc in
      subst (λ z. P p z) same (subst (λ q. P q y) f h.0)
  each_at from (y ∷ ys) (suc i) p x e g h = each_at (from + 1) ys i p x (omega (arith, e)) g h.1

  pub each_one : (xs : List A) (p : ℕ) (x : A) → at_one xs p ≡ Some x → Each P 1 xs → P p x
  each_one xs zero x g h = cc
  each_one xs (suc i) x g h = each_at 1 xs i (suc i) x (omega arith) g h

  pub each_made : (from : ℕ) (xs : List A) → ((i p : ℕ) (x : A) → p ≡ from + i → slice_get xs i ≡ Some x → P p x) → Each P from xs
  each_made from [] f = tt
  each_made from (x ∷ xs) f = (f 0 from x (omega arith) refl, each_made (from + 1) xs (λ i p y e g. f (suc i) p y (omega (arith, e)) g))

-- a list has its own entries
pub each_own : {A : Type 0} (xs : List A) → Each (λ p x. at_one xs p ≡ Some x) 1 xs
each_own xs = each_made (λ p x. at_one xs p ≡ Some x) 1 xs (λ i p x e g. let f : suc i ≡ p = omega (arith, e) in subst (λ q. at_one xs q ≡ Some x) f g)

-- the number of an entry is one of the list's
pub one_within : {A : Type 0} (xs : List A) (p : ℕ) (x : A) → at_one xs p ≡ Some x → (0 < p) × (p < length xs + 1)
one_within xs zero x g = cc
one_within xs (suc i) x g = (omega arith, within xs i x g)
  where
    within : {A : Type 0} (xs : List A) (i : ℕ) (x : A) → slice_get xs i ≡ Some x → suc i < length xs + 1
    within [] i x g = cc
    within (y ∷ ys) zero x g = omega arith
    within (y ∷ ys) (suc i) x g = let h = within ys i x g in omega (arith, h)
