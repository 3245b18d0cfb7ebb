-- The numbers for which a test holds.
use Rattle.std.proofs.Common.{ℕ, suc, zero, ◌+◌, ◌<◌, ◌≤◌, ◌≡◌, Bool, true, false, cond, eqb, List, [], ◌∷◌, ◌++◌, length, get_or, ap, sym, refl, ◌∙◌, subst, inl, inr, arith, length-append}
use Rattle.std.specs.Prelude.{All}
use Rattle.std.proofs.lemmas.Bool.{cases_Bool, cases_eq, eq-eqb, ne_eqb}
use Rattle.std.proofs.lemmas.List.{append-nil}
use Rattle.std.proofs.lemmas.List.Sums.{sum_by-cons}
use Rattle.std.proofs.lemmas.List.Elements.{All-append, All-cons, All-nil}
use Rattle.lucy_stream.specs.Plans.{times, IsOperand}
use Rattle.lucy_net.specs.Proper.{numbers_where}
use Rattle.lucy_net.proofs.NumberedLaws.{times_append}

abbrev one : Bool → ℕ
one b = cond b 1 0

more_yes : (p : ℕ → Bool) (n r : ℕ) → p n ≡ true → times r (numbers_where p (suc n)) ≡ times r (numbers_where p n) + one (eqb n r)
more_yes p n r h =
    let a : times r (numbers_where p n ++ cond (p n) (n ∷ []) []) ≡ times r (numbers_where p n ++ n ∷ []) = ap (λ c. times r (numbers_where p n ++ cond c (n ∷ []) [])) h in
    let b : times r (n ∷ []) ≡ one (eqb n r) + times r [] = sum_by-cons (λ s. cond (eqb s r) 1 0) n [] in
    let z : times r [] ≡ 0 = refl in
    omega (arith, times_append r (numbers_where p n) (n ∷ []))

more_no : (p : ℕ → Bool) (n r : ℕ) → p n ≡ false → times r (numbers_where p (suc n)) ≡ times r (numbers_where p n)
more_no p n r h =
    let a : times r (numbers_where p n ++ cond (p n) (n ∷ []) []) ≡ times r (numbers_where p n ++ []) = ap (λ c. times r (numbers_where p n ++ cond c (n ∷ []) [])) h in
    let z : times r [] ≡ 0 = refl in
    omega (arith, times_append r (numbers_where p n) [])

one_same : (n r : ℕ) → n ≡ r → one (eqb n r) ≡ 1
one_same n r e = ap one (eq-eqb n r e)

one_other : (n r : ℕ) → (n ≡ r → ⊥) → one (eqb n r) ≡ 0
one_other n r h = ap one (ne_eqb n r h)

pub times_past : (p : ℕ → Bool) (n r : ℕ) → n ≤ r → times r (numbers_where p n) ≡ 0
times_past p zero r l = refl
times_past p (suc n) r l = elim (cases_Bool (p n)) [
  | inl h ↦ omega (arith, more_yes p n r h, times_past p n r (omega arith), one_other n r (λ (e : n ≡ r). absurd (omega arith)))
  | inr h ↦ omega (arith, more_no p n r h, times_past p n r (omega arith))
]

pub times_yes : (p : ℕ → Bool) (n r : ℕ) → r < n → p r ≡ true → times r (numbers_where p n) ≡ 1
times_yes p zero r l y = absurd (omega arith)
times_yes p (suc n) r l y = elim (cases_eq n r) [
  | inl same ↦
      let h : p n ≡ true = ap p same ∙ y in
      omega (arith, more_yes p n r h, times_past p n r (omega arith), one_same n r same)
  | inr other ↦ elim (cases_Bool (p n)) [
    | inl h ↦ omega (arith, more_yes p n r h, times_yes p n r (omega arith) y, one_other n r other)
    | inr h ↦ omega (arith, more_no p n r h, times_yes p n r (omega arith) y)
  ]
]

pub times_le : (p : ℕ → Bool) (n r : ℕ) → times r (numbers_where p n) ≤ 1
times_le p zero r = omega arith
times_le p (suc n) r = elim (cases_Bool (p n)) [
  | inr h ↦ omega (arith, more_no p n r h, times_le p n r)
  | inl h ↦ elim (cases_eq n r) [
    | inl same ↦ omega (arith, more_yes p n r h, times_past p n r (omega arith), one_same n r same)
    | inr other ↦ omega (arith, more_yes p n r h, times_le p n r, one_other n r other)
  ]
]

pub where_all : (P : ℕ → Type 0) (p : ℕ → Bool) (n : ℕ) → ((r : ℕ) → r < n → p r ≡ true → P r) → All P (numbers_where p n)
where_all P p zero h = All-nil P
where_all P p (suc n) h =
    let rest : All P (numbers_where p n) = where_all P p n (λ r l y. h r (omega arith) y) in
    elim (cases_Bool (p n)) [
      | inl y ↦ subst (λ c. All P (numbers_where p n ++ cond c (n ∷ []) [])) (sym y) (All-append P (numbers_where p n) (n ∷ []) rest (All-cons P n [] (h n (omega arith) y) (All-nil P)))
      | inr y ↦ subst (λ c. All P (numbers_where p n ++ cond c (n ∷ []) [])) (sym y) (All-append P (numbers_where p n) [] rest (All-nil P))
    ]

pub where_length : (p : ℕ → Bool) (n : ℕ) → length (numbers_where p n) ≤ n
where_length p zero = omega arith
where_length p (suc n) = elim (cases_Bool (p n)) [
  | inl y ↦
      let a : length (numbers_where p (suc n)) ≡ length (numbers_where p n ++ n ∷ []) = ap (λ c. length (numbers_where p n ++ cond c (n ∷ []) [])) y in
      omega (arith, length-append (numbers_where p n) (n ∷ []), where_length p n)
  | inr y ↦
      let a : length (numbers_where p (suc n)) ≡ length (numbers_where p n ++ []) = ap (λ c. length (numbers_where p n ++ cond c (n ∷ []) [])) y in
      let none : List ℕ = [] in
      omega (arith, length-append (numbers_where p n) none, where_length p n)
]

-- a number that stands in a list stands at some place
place_of : (r : ℕ) (xs : List ℕ) → 0 < times r xs → (j : ℕ) × (j < length xs) × (get_or xs j 0 ≡ r)
place_of r [] l = absurd (omega arith)
place_of r (x ∷ xs) l = elim (cases_eq x r) [
  | inl same ↦ (0, omega arith, same)
  | inr other ↦
      let a : times r (x ∷ xs) ≡ one (eqb x r) + times r xs = sum_by-cons (λ s. cond (eqb s r) 1 0) x xs in
      let rest = place_of r xs (omega (arith, one_other x r other)) in
      (suc rest.0, omega (arith, rest.1), rest.2)
]

pub operand_of : (r : ℕ) (xs : List ℕ) → times r xs ≡ 1 → (j : ℕ) × IsOperand xs j r
operand_of r xs e = let at = place_of r xs (omega arith) in (at.0, record { there = at.1; is = at.2; once = e })

-- one number more
pub where_yes : (p : ℕ → Bool) (n : ℕ) → p n ≡ true → numbers_where p (n + 1) ≡ numbers_where p n ++ n ∷ []
where_yes p n h = ap (numbers_where p) (let z : n + 1 ≡ suc n = omega arith in z) ∙ ap (λ c. numbers_where p n ++ cond c (n ∷ []) []) h

pub where_no : (p : ℕ → Bool) (n : ℕ) → p n ≡ false → numbers_where p (n + 1) ≡ numbers_where p n
where_no p n h = ap (numbers_where p) (let z : n + 1 ≡ suc n = omega arith in z) ∙ ap (λ c. numbers_where p n ++ cond c (n ∷ []) []) h ∙ append-nil (numbers_where p n)

-- numbers for which a test holds
pub where_same : (f g : ℕ → Bool) (n : ℕ) → ((r : ℕ) → r < n → f r ≡ g r) → numbers_where f n ≡ numbers_where g n
where_same f g zero h = refl
where_same f g (suc n) h =
    ap (λ t. t ++ cond (f n) (n ∷ []) []) (where_same f g n (λ r l. h r (omega (arith, l)))) ∙ ap (λ b. numbers_where g n ++ cond b (n ∷ []) []) (h n (omega arith))
