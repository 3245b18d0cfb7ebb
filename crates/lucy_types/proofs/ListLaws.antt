-- Elements of lists by their numbers.
use Rattle.std.proofs.Common.{ℕ, zero, suc, ◌+◌, ◌≡◌, ◌≤◌, ◌<◌, List, [], ◌∷◌, ◌++◌, Some, None, length, map, take, get_or, refl, ap, sym, ◌∙◌, subst, inl, inr, arith, append_assoc}
use Rattle.std.specs.Prelude.{slice_get, ◌⊎◌}
use Rattle.std.specs.List.{Contains, AllByRecursion}
use Rattle.std.proofs.lemmas.List.{take_more, map-append}
use Rattle.std.proofs.lemmas.Option.{slice_get_within, slice_get-get_or, get_or_from_slice_get, same_Some, none-some}
use Rattle.lucy_host.proofs.Elements.{same_elements, get_there}
use Rattle.lucy_place.specs.Proper.{at_one}
use Rattle.lucy_place.proofs.NodeLaws.{at_one_within}

pub same_at_one : {A : Type 0} (xs ys : List A) → ((p : ℕ) → at_one xs p ≡ at_one ys p) → xs ≡ ys
same_at_one xs ys h = same_elements xs ys (λ i. h (suc i))

-- up to the length each number has an element
pub at_one_there : {A : Type 0} (xs : List A) (p : ℕ) → 1 ≤ p → p ≤ length xs → (x : A) × (at_one xs p ≡ Some x)
at_one_there xs zero h l = absurd (omega arith)
at_one_there xs (suc n) h l = get_there xs n (omega arith)

-- where two lists have one length, both have an element or neither
pub no_element : {A B : Type 0} (xs : List A) (ys : List B) (p : ℕ) (y : B) → length xs ≡ length ys → at_one xs p ≡ None → at_one ys p ≡ Some y → ⊥
no_element xs ys p y e h k =
    let w = at_one_within ys p y k in
    let t = at_one_there xs p w.0 (let l : p ≤ length ys = w.1 in omega arith) in
    none-some t.0 (sym h ∙ t.1)

-- what holds of all holds of one
pub all_at : {A : Type 0} (P : A → Type 0) (xs : List A) (i : ℕ) (x : A) → AllByRecursion P xs → slice_get xs i ≡ Some x → P x
all_at P [] i x all e = absurd (none-some x e)
all_at P (y ∷ xs) zero x all e = subst P (same_Some y x e) all.0
all_at P (y ∷ xs) (suc i) x all e = all_at P xs i x all.1 e

-- an element of a list of which so many are taken
pub taken : {A : Type 0} (n : ℕ) (xs : List A) (i : ℕ) (x : A) → slice_get (take n xs) i ≡ Some x → (i < n) × (slice_get xs i ≡ Some x)
taken zero xs i x h = absurd (none-some x h)
taken (suc n) [] i x h = absurd (none-some x h)
taken (suc n) (y ∷ xs) zero x h = (omega arith, h)
taken (suc n) (y ∷ xs) (suc i) x h = let t = taken n xs i x h in (let l : i < n = t.0 in omega arith, t.1)

-- an element of a list that has one more at its end
pub get_old : {A : Type 0} (xs : List A) (y : A) (i : ℕ) → i < length xs → slice_get (xs ++ y ∷ []) i ≡ slice_get xs i
get_old [] y i h = absurd (omega arith)
get_old (x ∷ xs) y zero h = refl
get_old (x ∷ xs) y (suc i) h = get_old xs y i (omega arith)

pub get_push : {A : Type 0} (xs : List A) (y : A) (i : ℕ) (x : A) → slice_get (xs ++ y ∷ []) i ≡ Some x → ((i < length xs) × (slice_get xs i ≡ Some x)) ⊎ ((i ≡ length xs) × (y ≡ x))
get_push [] y zero x h = inr (refl, same_Some y x h)
get_push [] y (suc i) x h = absurd (none-some x h)
get_push (z ∷ xs) y zero x h = inl (omega arith, h)
get_push (z ∷ xs) y (suc i) x h = elim (get_push xs y i x h) [ inl p ↦ inl (let l : i < length xs = p.0 in omega arith, p.1) | inr p ↦ inr (ap suc p.0, p.1) ]

-- membership by number
pub contains_at : {A : Type 0} (xs : List A) (i : ℕ) (x : A) → slice_get xs i ≡ Some x → Contains xs x
contains_at xs i x h = (i, slice_get_within xs i x h, get_or_from_slice_get xs i x x h)

pub at_contains : {A : Type 0} (xs : List A) (x : A) → Contains xs x → (i : ℕ) × (slice_get xs i ≡ Some x)
at_contains xs x c = (c.0, slice_get-get_or xs c.0 x c.1 ∙ ap Some c.2)

pub contains_head : {A : Type 0} (x : A) (xs : List A) → Contains (x ∷ xs) x
contains_head x xs = contains_at (x ∷ xs) 0 x refl

pub contains_tail : {A : Type 0} (y : A) (xs : List A) (x : A) → Contains xs x → Contains (y ∷ xs) x
contains_tail y xs x c = let a = at_contains xs x c in contains_at (y ∷ xs) (suc a.0) x a.1

cons_at : {A : Type 0} (y : A) (xs : List A) (x : A) (i : ℕ) → slice_get (y ∷ xs) i ≡ Some x → (y ≡ x) ⊎ Contains xs x
cons_at y xs x zero h = inl (same_Some y x h)
cons_at y xs x (suc i) h = inr (contains_at xs i x h)

pub contains_cons : {A : Type 0} (y : A) (xs : List A) (x : A) → Contains (y ∷ xs) x → (y ≡ x) ⊎ Contains xs x
contains_cons y xs x c = cons_at y xs x (at_contains (y ∷ xs) x c).0 (at_contains (y ∷ xs) x c).1

pub contains_none : {A : Type 0} (x : A) → Contains [] x → ⊥
contains_none x c = none-some x (at_contains [] x c).1

-- what the elements up to one give, behind other elements
pub mapped_next : {A B : Type 0} (f : A → B) (start old new : List B) (xs : List A) (i : ℕ) (d : A) → i < length xs → new ≡ old ++ f (get_or xs i d) ∷ [] →
    old ≡ start ++ map f (take i xs) → new ≡ start ++ map f (take (i + 1) xs)
mapped_next f start old new xs i d h put before =
    let x = get_or xs i d in
    put ∙ ap (λ l. l ++ f x ∷ []) before ∙ append_assoc start (map f (take i xs)) (f x ∷ [])
    ∙ ap (λ l. start ++ l) (sym (ap (map f) (take_more xs i d h) ∙ map-append f (take i xs) (x ∷ [])))
