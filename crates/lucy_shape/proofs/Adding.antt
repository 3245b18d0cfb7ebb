-- Rows that are added one after the other.
use Rattle.std.proofs.Common.{take, get_or, ◌≡◌, ℕ, ◌+◌, ◌*◌, ◌<◌, ◌≤◌, zero, suc, List, [], ◌∷◌, ◌++◌, map, length, sym, ap, ◌∙◌, refl, arith, length-append, append_assoc}
use Rattle.std.specs.List.{range_with_len, flat_map}
use Rattle.std.proofs.lemmas.List.FromFn.{map-range_with_len_more}
use Rattle.std.proofs.lemmas.List.{take_more}
use Rattle.std.proofs.lemmas.Grind.{flat_map-append}
use Rattle.lucy_solve.specs.declared.diffs.Diff.{Diff}
use Rattle.lucy_solve.specs.System.{DifferenceSystem}
use Rattle.lucy_shape.specs.Added.{with_rows}

append_nil : {A : Type 0} (xs : List A) → xs ≡ xs ++ []
append_nil [] = refl
append_nil (x ∷ xs) = ap (λ l. x ∷ l) (append_nil xs)

abbrev with_list : ℕ → List Diff → DifferenceSystem
with_list n l = record { count = n; list = l }

pub added_more : (old now next : DifferenceSystem) (rows more all : List Diff) → now ≡ with_rows old rows → next ≡ with_rows now more → all ≡ rows ++ more → next ≡ with_rows old all
added_more old now next rows more all e f g =
    f ∙ ap (λ s. with_rows s more) e ∙ ap (λ l. with_list old.count l) (append_assoc old.list rows more ∙ ap (λ l. old.list ++ l) (sym g))

flat_next : {A : Type 0} (f : ℕ → List A) (a n : ℕ) → flat_map f (range_with_len a (suc n)) ≡ flat_map f (range_with_len a n) ++ f (a + n)
flat_next f a zero = sym (append_nil (f a)) ∙ ap f (let e : a ≡ a + 0 = omega arith in e)
flat_next f a (suc n) = ap (λ l. f a ++ l) (flat_next f (a + 1) n) ∙ sym (append_assoc (f a) (flat_map f (range_with_len (a + 1) n)) (f (a + 1 + n)))
    ∙ ap (λ k. flat_map f (range_with_len a (suc n)) ++ f k) (let e : a + 1 + n ≡ a + suc n = omega arith in e)

pub flat_more : {A : Type 0} (f : ℕ → List A) (a n : ℕ) → flat_map f (range_with_len a (n + 1)) ≡ flat_map f (range_with_len a n) ++ f (a + n)
flat_more f a n = ap (λ k. flat_map f (range_with_len a k)) (let e : n + 1 ≡ suc n = omega arith in e) ∙ flat_next f a n

-- the rows so far are no more than all
pub flat_less : {A : Type 0} (f : ℕ → List A) (a n i : ℕ) → i < n → length (flat_map f (range_with_len a i)) + length (f (a + i)) ≤ length (flat_map f (range_with_len a n))
flat_less f a zero i l = absurd (omega arith)
flat_less f a (suc n) zero l = let e = length-append (f a) (flat_map f (range_with_len (a + 1) n)) in let g : length (f (a + 0)) ≡ length (f a) = ap (λ k. length (f k)) (omega arith) in omega arith
flat_less f a (suc n) (suc i) l =
    let r = flat_less f (a + 1) n i (omega arith) in
    let e = length-append (f a) (flat_map f (range_with_len (a + 1) n)) in
    let g = length-append (f a) (flat_map f (range_with_len (a + 1) i)) in
    let h : length (f (a + 1 + i)) ≡ length (f (a + suc i)) = ap (λ k. length (f k)) (omega arith) in
    omega arith

-- one more row of a list by number, and one more piece
pub step_map : (old now next : DifferenceSystem) (f : ℕ → Diff) (a i : ℕ) (row : Diff) → now ≡ with_rows old (map f (range_with_len a i)) → next ≡ with_rows now (row ∷ []) → row ≡ f (a + i) →
    next ≡ with_rows old (map f (range_with_len a (i + 1)))
step_map old now next f a i row e g h =
    added_more old now next (map f (range_with_len a i)) (row ∷ []) (map f (range_with_len a (i + 1))) e g
    (map-range_with_len_more f a i (a + i) refl ∙ ap (λ r. map f (range_with_len a i) ++ r ∷ []) (sym h))

pub step_flat : (old now next : DifferenceSystem) (f : ℕ → List Diff) (a i : ℕ) (rows : List Diff) → now ≡ with_rows old (flat_map f (range_with_len a i)) → next ≡ with_rows now rows → rows ≡ f (a + i) →
    next ≡ with_rows old (flat_map f (range_with_len a (i + 1)))
step_flat old now next f a i rows e g h =
    added_more old now next (flat_map f (range_with_len a i)) rows (flat_map f (range_with_len a (i + 1))) e g
    (flat_more f a i ∙ ap (λ r. flat_map f (range_with_len a i) ++ r) (sym h))

-- the rows of the first needs, and those of one more
pub step_take : {A : Type 0} (old now next : DifferenceSystem) (f : A → List Diff) (list : List A) (i : ℕ) (d : A) (rows : List Diff) → i < length list → now ≡ with_rows old (flat_map f (take i list)) →
    next ≡ with_rows now rows → rows ≡ f (get_or list i d) → next ≡ with_rows old (flat_map f (take (i + 1) list))
step_take old now next f list i d rows l e g h =
    let more : flat_map f (take (i + 1) list) ≡ flat_map f (take i list) ++ f (get_or list i d) = ap (flat_map f) (take_more list i d l) ∙ flat_map-append f (take i list) (get_or list i d ∷ []) ∙
    ap (λ k. flat_map f (take i list) ++ k) (sym (append_nil (f (get_or list i d)))) in
    added_more old now next (flat_map f (take i list)) rows (flat_map f (take (i + 1) list)) e g (more ∙ ap (λ k. flat_map f (take i list) ++ k) (sym h))

-- how many they are
pub length_take : {A : Type 0} (f : A → List Diff) (list : List A) (i : ℕ) (d : A) → i < length list → length (flat_map f (take (i + 1) list)) ≡ length (flat_map f (take i list)) + length (f (get_or list i d))
length_take f list i d l =
    let e : flat_map f (take (i + 1) list) ≡ flat_map f (take i list) ++ f (get_or list i d) = ap (flat_map f) (take_more list i d l) ∙ flat_map-append f (take i list) (get_or list i d ∷ []) ∙
    ap (λ k. flat_map f (take i list) ++ k) (sym (append_nil (f (get_or list i d)))) in
    ap length e ∙ length-append (flat_map f (take i list)) (f (get_or list i d))

pub length_more : (f : ℕ → List Diff) (a n : ℕ) → length (flat_map f (range_with_len a (n + 1))) ≡ length (flat_map f (range_with_len a n)) + length (f (a + n))
length_more f a n = ap length (flat_more f a n) ∙ length-append (flat_map f (range_with_len a n)) (f (a + n))

-- a pair for each number
pub length_pairs : (f g : ℕ → Diff) (a n : ℕ) → length (flat_map (λ k. f k ∷ g k ∷ []) (range_with_len a n)) ≡ 2 * n
length_pairs f g a zero = refl
length_pairs f g a (suc n) =
    let e = length_pairs f g (a + 1) n in
    omega arith

pub pair_is : (a b x y : Diff) → a ≡ x → b ≡ y → a ∷ b ∷ [] ≡ x ∷ y ∷ []
pair_is a b x y e f = ap (λ r. r ∷ b ∷ []) e ∙ ap (λ r. x ∷ r ∷ []) f
