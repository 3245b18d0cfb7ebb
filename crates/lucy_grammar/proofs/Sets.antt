-- Sets of numbers.
use Rattle.std.proofs.Common.{ℕ, ◌≡◌, Bool, true, false, List, [], ◌∷◌, ◌++◌, eqb, ◌&&◌, ◌||◌, not, refl, ap, sym, ◌∙◌, subst, arith}
use Rattle.std.proofs.lemmas.Bool.{both_ways, or_right, eqb-true}
use Rattle.std.proofs.lemmas.Bool.Decides.{nat_tests}
use Rattle.lucy_grammar.specs.Sets.{within, subset, apart}

pub and_left : (a b : Bool) → (a && b) ≡ true → a ≡ true
and_left true b h = refl
and_left false b h = h

pub and_right : (a b : Bool) → (a && b) ≡ true → b ≡ true
and_right true b h = h
and_right false b h = absurd (both_ways false refl h)

or_more : (a b c : Bool) → (b ≡ true → c ≡ true) → (a || b) ≡ true → (a || c) ≡ true
or_more true b c f h = refl
or_more false b c f h = f h

-- a number of a list is the first one or stands behind it
pub within_cases : (x k : ℕ) (xs : List ℕ) (P : Type 0) → within k (x ∷ xs) ≡ true → (x ≡ k → P) → (within k xs ≡ true → P) → P
within_cases x k xs P h here there = go (eqb x k) refl h
  where
    go : (b : Bool) → eqb x k ≡ b → (b || within k xs) ≡ true → P
    go true e w = here (eqb-true x k e)
    go false e w = there w

pub within_subset : (xs ys : List ℕ) (k : ℕ) → subset xs ys ≡ true → within k xs ≡ true → within k ys ≡ true
within_subset [] ys k s h = absurd (both_ways false refl h)
within_subset (x ∷ xs) ys k s h =
    within_cases x k xs (within k ys ≡ true) h
    (λ e. subst (λ (n : ℕ). within n ys ≡ true) e (and_left _ _ s))
    (λ w. within_subset xs ys k (and_right (within x ys) _ s) w)

pub within_apart : (xs ys : List ℕ) (k : ℕ) → apart xs ys ≡ true → within k xs ≡ true → within k ys ≡ true → ⊥
within_apart [] ys k s h g = both_ways false refl h
within_apart (x ∷ xs) ys k s h g =
    within_cases x k xs ⊥ h
    (λ e. let w : within x ys ≡ true = subst (λ (n : ℕ). within n ys ≡ true) (sym e) g in
    let n : not (within x ys) ≡ true = and_left _ (apart xs ys) s in
    both_ways false refl (sym (ap not w) ∙ n))
    (λ w. within_apart xs ys k (and_right (not (within x ys)) _ s) w g)

pub within_one : (x k : ℕ) → within k (x ∷ []) ≡ true → x ≡ k
within_one x k h = within_cases x k [] (x ≡ k) h (λ e. e) (λ w. absurd (both_ways false refl w))

pub same_number : (k : ℕ) → within k (k ∷ []) ≡ true
same_number k = grind (arith, nat_tests)

pub within_left : (xs ys : List ℕ) (k : ℕ) → within k xs ≡ true → within k (xs ++ ys) ≡ true
within_left [] ys k h = absurd (both_ways false refl h)
within_left (x ∷ xs) ys k h = or_more (eqb x k) (within k xs) (within k (xs ++ ys)) (within_left xs ys k) h

pub within_right : (xs ys : List ℕ) (k : ℕ) → within k ys ≡ true → within k (xs ++ ys) ≡ true
within_right [] ys k h = h
within_right (x ∷ xs) ys k h = or_right (eqb x k) _ (within_right xs ys k h)

-- a number of two lists is one of either
pub within_either : (xs ys : List ℕ) (k : ℕ) (P : Type 0) → within k (xs ++ ys) ≡ true → (within k xs ≡ true → P) → (within k ys ≡ true → P) → P
within_either [] ys k P w f g = g w
within_either (x ∷ xs) ys k P w f g =
    within_cases x k (xs ++ ys) P w
    (λ e. f (subst (λ (n : ℕ). within n (x ∷ xs) ≡ true) e (or_more (eqb x x) false (within x xs) (λ h. absurd (both_ways false refl h)) (same_number x))))
    (λ v. within_either xs ys k P v (λ u. f (or_right (eqb x k) _ u)) g)
