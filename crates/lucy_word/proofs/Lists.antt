-- Facts about lists that several crates need.
use Rattle.std.proofs.Common.{ℕ, zero, suc, ◌+◌, ◌≡◌, ◌<◌, ◌⊎◌, List, [], ◌∷◌, ◌++◌, Some, length, map, take, drop, replicate, get_or, set, refl, ap, sym, ◌∙◌, subst, inl, inr, arith, append_assoc}
use Rattle.std.specs.Prelude.{slice_get, slice_index}
use Rattle.std.specs.List.{AllByRecursion, range_with_len}
use Rattle.std.proofs.lemmas.List.{drop_more, take_more, drop_all, take_all, append-nil}
use Rattle.std.proofs.lemmas.Option.{same_Some}

-- what is left of a list from an element on
pub drop_next : {A : Type 0} (xs : List A) (i : ℕ) (x : A) → i < length xs → x ≡ get_or xs i x → drop i xs ≡ x ∷ drop (i + 1) xs
drop_next xs i x h e = drop_more xs i x h ∙ ap (λ y. y ∷ drop (i + 1) xs) (sym e)

-- what stands before the next element
pub take_next : {A : Type 0} (xs : List A) (i : ℕ) (x : A) → i < length xs → x ≡ get_or xs i x → take (i + 1) xs ≡ take i xs ++ x ∷ []
take_next xs i x h e = take_more xs i x h ∙ ap (λ y. take i xs ++ y ∷ []) (sym e)

-- what holds of all holds of one
pub all_at : {A : Type 0} (P : A → Type 0) (xs : List A) (i : ℕ) (x : A) → AllByRecursion P xs → slice_get xs i ≡ Some x → P x
all_at P [] i x all e = absurd (cc e)
all_at P (y ∷ xs) zero x all e = subst P (same_Some y x e) all.0
all_at P (y ∷ xs) (suc i) x all e = all_at P xs i x all.1 e

-- what holds of all of two lists holds of all of both
pub all_join : {A : Type 0} (P : A → Type 0) (xs ys : List A) → AllByRecursion P xs → AllByRecursion P ys → AllByRecursion P (xs ++ ys)
all_join P [] ys a b = b
all_join P (x ∷ xs) ys a b = (a.0, all_join P xs ys a.1 b)

-- what follows from what holds of all holds of all
pub all_weaker : {A : Type 0} (P Q : A → Type 0) (xs : List A) → ((x : A) → P x → Q x) → AllByRecursion P xs → AllByRecursion Q xs
all_weaker P Q [] f h = tt
all_weaker P Q (x ∷ xs) f h = (f x h.0, all_weaker P Q xs f h.1)

-- what stands in a list stands in a longer one
pub still_there : {A : Type 0} (xs ys : List A) (i : ℕ) (x : A) → slice_get xs i ≡ Some x → slice_get (xs ++ ys) i ≡ Some x
still_there [] ys i x e = absurd (cc e)
still_there (y ∷ xs) ys zero x e = e
still_there (y ∷ xs) ys (suc i) x e = still_there xs ys i x e

-- where an element was written, it is read
pub get_set : {A : Type 0} (xs : List A) (i : ℕ) (x : A) → i < length xs → slice_get (set xs i x) i ≡ Some x
get_set [] i x h = absurd (omega arith)
get_set (y ∷ xs) zero x h = refl
get_set (y ∷ xs) (suc i) x h = get_set xs i x (omega arith)

-- what is read where an element was written is that element
pub get_set_same : {A : Type 0} (xs : List A) (i : ℕ) (y x : A) → slice_get (set xs i y) i ≡ Some x → x ≡ y
get_set_same [] i y x e = cc
get_set_same (z ∷ xs) zero y x e = cc
get_set_same (z ∷ xs) (suc i) y x e = get_set_same xs i y x e

-- beside it all is as before
pub get_set_other : {A : Type 0} (xs : List A) (i j : ℕ) (y : A) → (j ≡ i → ⊥) → slice_get (set xs i y) j ≡ slice_get xs j
get_set_other [] i j y ne = refl
get_set_other (x ∷ xs) zero zero y ne = absurd (ne refl)
get_set_other (x ∷ xs) zero (suc j) y ne = refl
get_set_other (x ∷ xs) (suc i) zero y ne = refl
get_set_other (x ∷ xs) (suc i) (suc j) y ne = get_set_other xs i j y (λ (e : j ≡ i). ne (ap suc e))

-- an element of a list with one more is one of those before, or the one
pub get_push : {A : Type 0} (xs : List A) (y : A) (i : ℕ) (x : A) → slice_get (xs ++ y ∷ []) i ≡ Some x → (slice_get xs i ≡ Some x) ⊎ ((i ≡ length xs) × (y ≡ x))
get_push [] y zero x e = inr (refl, same_Some y x e)
get_push [] y (suc i) x e = absurd (cc e)
get_push (z ∷ xs) y zero x e = inl e
get_push (z ∷ xs) y (suc i) x e = elim (get_push xs y i x e) [ inl old ↦ inl old | inr new ↦ inr (ap suc new.0, new.1) ]

-- a list of one has that one alone
pub only_one : {A : Type 0} (x : A) (i : ℕ) (y : A) → slice_get (x ∷ []) i ≡ Some y → x ≡ y
only_one x zero y e = same_Some x y e
only_one x (suc i) y e = absurd (cc e)

-- an element of a list that was mapped comes from one of the list
pub map_from : {A B : Type 0} (f : A → B) (xs : List A) (i : ℕ) (y : B) → slice_get (map f xs) i ≡ Some y → (x : A) × (slice_get xs i ≡ Some x) × (f x ≡ y)
map_from f [] i y e = absurd (cc e)
map_from f (x ∷ xs) zero y e = (x, refl, same_Some (f x) y e)
map_from f (x ∷ xs) (suc i) y e = map_from f xs i y e

-- lists of one length with the same elements are equal
pub same_entries : {A : Type 0} (xs ys : List A) → length xs ≡ length ys → ((i : ℕ) (x y : A) → slice_get xs i ≡ Some x → slice_get ys i ≡ Some y → x ≡ y) → xs ≡ ys
same_entries [] [] count same = refl
same_entries [] (y ∷ ys) count same = absurd (omega (arith, count))
same_entries (x ∷ xs) [] count same = absurd (omega (arith, count))
same_entries (x ∷ xs) (y ∷ ys) count same =
    ap (λ z. z ∷ xs) (same 0 x y refl refl) ∙ ap (λ zs. y ∷ zs) (same_entries xs ys (omega (arith, count)) (λ i a b e f. same (suc i) a b e f))

-- a list of zeros has 0 at each number
pub zeros_at : (n a : ℕ) → slice_index (replicate n 0) a ≡ 0
zeros_at zero a = refl
zeros_at (suc n) zero = refl
zeros_at (suc n) (suc a) = zeros_at n a

-- nothing is taken from an empty list
pub take_nil : (n : ℕ) → take {A = ℕ} n [] ≡ []
take_nil zero = refl
take_nil (suc n) = refl

-- a row of numbers with one more
pub range_more : (a n : ℕ) → range_with_len a (n + 1) ≡ range_with_len a n ++ (a + n) ∷ []
range_more a n = let e : n + 1 ≡ suc n = omega arith in ap (range_with_len a) e ∙ more a n
  where
    more : (a n : ℕ) → range_with_len a (suc n) ≡ range_with_len a n ++ (a + n) ∷ []
    more a zero = let e : a ≡ a + 0 = omega arith in ap (λ x. x ∷ []) e
    more a (suc n) = let e : a + 1 + n ≡ a + suc n = omega arith in ap (λ l. a ∷ l) (more (a + 1) n ∙ ap (λ x. range_with_len (a + 1) n ++ x ∷ []) e)

-- pieces that are put one behind the other: three,
pub three : (a b c d p q r : List ℕ) → b ≡ a ++ p → c ≡ b ++ q → d ≡ c ++ r → d ≡ a ++ (p ++ (q ++ r))
three a b c d p q r one two last = last ∙ ap (λ x. x ++ r) (two ∙ ap (λ x. x ++ q) one) ∙ append_assoc (a ++ p) q r ∙ append_assoc a p (q ++ r)

-- four,
pub four : (a b c d e p q r s : List ℕ) → b ≡ a ++ p → c ≡ b ++ q → d ≡ c ++ r → e ≡ d ++ s → e ≡ a ++ (p ++ (q ++ (r ++ s)))
four a b c d e p q r s one two three last =
    last ∙ ap (λ x. x ++ s) (three ∙ ap (λ x. x ++ r) (two ∙ ap (λ x. x ++ q) one))
    ∙ append_assoc ((a ++ p) ++ q) r s ∙ append_assoc (a ++ p) q (r ++ s) ∙ append_assoc a p (q ++ (r ++ s))

-- five,
pub five : (a b c d e f p q r s t : List ℕ) → b ≡ a ++ p → c ≡ b ++ q → d ≡ c ++ r → e ≡ d ++ s → f ≡ e ++ t → f ≡ a ++ (p ++ (q ++ (r ++ (s ++ t))))
five a b c d e f p q r s t one two three four last =
    last ∙ ap (λ x. x ++ t) (four ∙ ap (λ x. x ++ s) (three ∙ ap (λ x. x ++ r) (two ∙ ap (λ x. x ++ q) one)))
    ∙ append_assoc (((a ++ p) ++ q) ++ r) s t ∙ append_assoc ((a ++ p) ++ q) r (s ++ t) ∙ append_assoc (a ++ p) q (r ++ (s ++ t)) ∙ append_assoc a p (q ++ (r ++ (s ++ t)))

-- six
pub six : (a b c d e f g p q r s t u : List ℕ) → b ≡ a ++ p → c ≡ b ++ q → d ≡ c ++ r → e ≡ d ++ s → f ≡ e ++ t → g ≡ f ++ u → g ≡ a ++ (p ++ (q ++ (r ++ (s ++ (t ++ u)))))
six a b c d e f g p q r s t u one two three four five last =
    last ∙ ap (λ x. x ++ u) (five ∙ ap (λ x. x ++ t) (four ∙ ap (λ x. x ++ s) (three ∙ ap (λ x. x ++ r) (two ∙ ap (λ x. x ++ q) one))))
    ∙ append_assoc ((((a ++ p) ++ q) ++ r) ++ s) t u ∙ append_assoc (((a ++ p) ++ q) ++ r) s (t ++ u) ∙ append_assoc ((a ++ p) ++ q) r (s ++ (t ++ u))
    ∙ append_assoc (a ++ p) q (r ++ (s ++ (t ++ u))) ∙ append_assoc a p (q ++ (r ++ (s ++ (t ++ u))))

-- a list without elements has none in front
pub front_empty : {A : Type 0} (xs ys : List A) → xs ++ ys ≡ [] → xs ≡ []
front_empty [] ys e = refl
front_empty (x ∷ xs) ys e = absurd (cc e)

-- and none behind
pub back_empty : {A : Type 0} (xs ys : List A) → xs ++ ys ≡ [] → ys ≡ []
back_empty [] ys e = e
back_empty (x ∷ xs) ys e = absurd (cc e)

-- one element stands at a number
pub get_one : {A : Type 0} (xs : List A) (i : ℕ) (x y : A) → slice_get xs i ≡ Some x → slice_get xs i ≡ Some y → x ≡ y
get_one xs i x y e f = same_Some x y (sym e ∙ f)

-- what a slice of a whole list leaves of it
pub written_back : {A : Type 0} (n : ℕ) (new old : List A) → length new ≡ length old → n ≡ length old → take n (new ++ drop (length new) old) ≡ new
written_back n new old same all = ap (λ xs. take n (new ++ xs)) (drop_all (length new) old (omega arith)) ∙ ap (take n) (append-nil new) ∙ take_all n new (omega arith)
