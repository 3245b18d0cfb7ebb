-- One more item of a list that is made.
use Rattle.std.proofs.Common.{ℕ, suc, ◌+◌, ◌-◌, ◌<◌, ◌≤◌, ◌≡◌, ◌⊎◌, inl, inr, true, false, cond, List, [], ◌∷◌, ◌++◌, Option, Some, None, length, take, drop, get_or, map, ap, sym, ◌∙◌, subst, arith, append_assoc, add-one, drop-cons, length-append}
use Rattle.std.specs.Prelude.{ℤ, pos, Result}
use Rattle.std.specs.Result.{IfErr, IsErrAnd}
use Rattle.std.specs.List.{range_with_len}
use Rattle.std.proofs.lemmas.List.{append-nil, take_all, take_more, length-take-le}
use Rattle.std.proofs.lemmas.List.FromFn.{map-range_with_len_more}
use Rattle.std.proofs.lemmas.Result.{err_from_is_err_and}
use Rattle.std.proofs.Math.ListN.{drop_of_length-le}
use Rattle.lucy_word.specs.Bits.{Bits, bit_at, ones_to, one_if}
use Rattle.lucy_word.specs.declared.limit.Limit.TheVariants as limit
use Rattle.lucy_word.proofs.BitsLaws.{ones_to-more, ones_to-le}
use Rattle.lucy_kahn.specs.declared.error.KahnError.{KahnError}
use Rattle.lucy_kahn.specs.declared.error.KahnError.TheVariants.{Limit, OutOfMemory}
use Rattle.lucy_kahn.specs.Outcomes.{most_items, Overflows}
use Rattle.lucy_stream.specs.Lists.{kept, kept_past}
use Rattle.lucy_stream.specs.Merges.{item_then, items_past}

-- what is made and what is left are the whole
pub whole_at_end : (made whole : List ℤ) → made ++ [] ≡ whole → made ≡ whole
whole_at_end made whole e = sym (append-nil made) ∙ e

pub longer : (made rest whole : List ℤ) (item : ℤ) → made ++ (item ∷ rest) ≡ whole → length made < length whole
longer made rest whole item e = omega (arith, ap (λ (xs : List ℤ). length xs) e, length-append made (item ∷ rest))

pub moved_on : (made rest whole : List ℤ) (item : ℤ) → made ++ (item ∷ rest) ≡ whole → (made ++ item ∷ []) ++ rest ≡ whole
moved_on made rest whole item e = append_assoc made (item ∷ []) rest ∙ e

-- a sampling at an item
pub kept_one : (word : Bits) (list : List ℤ) (i : ℕ) (item : ℤ) → drop i list ≡ item ∷ drop (i + 1) list → bit_at word (i + 1) ≡ true → kept_past word i (drop i list) ≡ item ∷ kept_past word (i + 1) (drop (i + 1) list)
kept_one word list i item e b = ap (kept_past word i) e ∙ ap (λ c. cond c (item ∷ kept_past word (i + 1) (drop (i + 1) list)) (kept_past word (i + 1) (drop (i + 1) list))) b

pub kept_none : (word : Bits) (list : List ℤ) (i : ℕ) (item : ℤ) → drop i list ≡ item ∷ drop (i + 1) list → bit_at word (i + 1) ≡ false → kept_past word i (drop i list) ≡ kept_past word (i + 1) (drop (i + 1) list)
kept_none word list i item e b = ap (kept_past word i) e ∙ ap (λ c. cond c (item ∷ kept_past word (i + 1) (drop (i + 1) list)) (kept_past word (i + 1) (drop (i + 1) list))) b

-- items of a merge up to so many
pub items_one : (f : ℕ → Option ℤ) (i end : ℕ) (item : ℤ) → i < end → f (i + 1) ≡ Some item → items_past f i (end - i) ≡ item ∷ items_past f (i + 1) (end - (i + 1))
items_one f i end item l e =
    let n : end - i ≡ suc (end - (i + 1)) = omega arith in
    ap (items_past f i) n ∙ ap (λ o. item_then o (items_past f (i + 1) (end - (i + 1)))) e

pub items_none : (f : ℕ → Option ℤ) (i end : ℕ) → i < end → f (i + 1) ≡ None → items_past f i (end - i) ≡ []
items_none f i end l e =
    let n : end - i ≡ suc (end - (i + 1)) = omega arith in
    ap (items_past f i) n ∙ ap (λ o. item_then o (items_past f (i + 1) (end - (i + 1)))) e

pub items_end : (f : ℕ → Option ℤ) (i end : ℕ) → end ≤ i → items_past f i (end - i) ≡ []
items_end f i end l = let n : end - i ≡ 0 = omega arith in ap (items_past f i) n

pub kept_put : (word : Bits) (list made new : List ℤ) (i : ℕ) → i < length list → bit_at word (i + 1) ≡ true → new ≡ made ++ get_or list i (pos 0) ∷ [] →
    made ++ kept_past word i (drop i list) ≡ kept word list → new ++ kept_past word (i + 1) (drop (i + 1) list) ≡ kept word list
kept_put word list made new i l b e h =
    let x : ℤ = get_or list i (pos 0) in
    let rest : List ℤ = kept_past word (i + 1) (drop (i + 1) list) in
    let next : drop i list ≡ x ∷ drop (i + 1) list = drop-cons list i (pos 0) l ∙ ap (λ n. x ∷ drop n list) (sym (add-one i)) in
    ap (λ m. m ++ rest) e ∙ moved_on made rest (kept word list) x (ap (λ t. made ++ t) (sym (kept_one word list i x next b)) ∙ h)

pub kept_skip : (word : Bits) (list made : List ℤ) (i : ℕ) → i < length list → bit_at word (i + 1) ≡ false →
    made ++ kept_past word i (drop i list) ≡ kept word list → made ++ kept_past word (i + 1) (drop (i + 1) list) ≡ kept word list
kept_skip word list made i l b h =
    let x : ℤ = get_or list i (pos 0) in
    let next : drop i list ≡ x ∷ drop (i + 1) list = drop-cons list i (pos 0) l ∙ ap (λ n. x ∷ drop n list) (sym (add-one i)) in
    ap (λ t. made ++ t) (sym (kept_none word list i x next b)) ∙ h

pub kept_end : (word : Bits) (list made : List ℤ) (i : ℕ) → length list ≤ i → made ++ kept_past word i (drop i list) ≡ kept word list → made ≡ kept word list
kept_end word list made i l h =
    let none : drop i list ≡ [] = drop_of_length-le list l in
    whole_at_end made (kept word list) (ap (λ t. made ++ kept_past word i t) (sym none) ∙ h)

pub kept_short : (word : Bits) (list made : List ℤ) (i : ℕ) → i < length list → bit_at word (i + 1) ≡ true → made ++ kept_past word i (drop i list) ≡ kept word list → length made < length (kept word list)
kept_short word list made i l b h =
    let x : ℤ = get_or list i (pos 0) in
    let next : drop i list ≡ x ∷ drop (i + 1) list = drop-cons list i (pos 0) l ∙ ap (λ n. x ∷ drop n list) (sym (add-one i)) in
    longer made (kept_past word (i + 1) (drop (i + 1) list)) (kept word list) x (ap (λ t. made ++ t) (sym (kept_one word list i x next b)) ∙ h)

pub ones_short : (w : Bits) (k : ℕ) → 0 < k → bit_at w k ≡ false → ones_to w k < k
ones_short w k some b =
    let z : k - 1 + 1 ≡ k = omega arith in
    let none : bit_at w (k - 1 + 1) ≡ false = ap (bit_at w) z ∙ b in
    let more : ones_to w (k - 1 + 1) ≡ ones_to w (k - 1) + 0 = ones_to-more w (k - 1) ∙ ap (λ c. ones_to w (k - 1) + one_if c) none in
    let same : ones_to w k ≡ ones_to w (k - 1 + 1) = ap (ones_to w) (sym z) in
    omega (arith, ones_to-le w (k - 1))

-- a list that is copied behind others, so far, at its end, and where an item is refused
pub copied_more : (front list made new : List ℤ) (i : ℕ) → i < length list → new ≡ made ++ get_or list i (pos 0) ∷ [] → made ≡ front ++ take i list → new ≡ front ++ take (i + 1) list
copied_more front list made new i l e h =
    let x : ℤ = get_or list i (pos 0) in
    e ∙ ap (λ m. m ++ x ∷ []) h ∙ append_assoc front (take i list) (x ∷ []) ∙ ap (λ t. front ++ t) (sym (take_more list i (pos 0) l))

pub copied_end : (front list made : List ℤ) (i : ℕ) → length list ≤ i → made ≡ front ++ take i list → made ≡ front ++ list
copied_end front list made i l h = h ∙ ap (λ t. front ++ t) (take_all i list l)

pub copied_short : (front list made : List ℤ) (i : ℕ) → i < length list → made ≡ front ++ take i list → length made < length (front ++ list)
copied_short front list made i l h =
    omega (arith, ap (λ (xs : List ℤ). length xs) h, length-append front (take i list), length-append front list, length-take-le i list (omega arith))

pub grown : (made new : List ℤ) (item : ℤ) (most : ℕ) → new ≡ made ++ item ∷ [] → length made < most → length new ≤ most
grown made new item most e l = omega (arith, ap (λ (xs : List ℤ). length xs) e, length-append made (item ∷ []))

pub mapped_more : (f : ℕ → ℤ) (made new : List ℤ) (k : ℕ) (item : ℤ) → made ≡ map f (range_with_len 0 k) → new ≡ made ++ item ∷ [] → item ≡ f k → new ≡ map f (range_with_len 0 (k + 1))
mapped_more f made new k item h e is =
    let z : 0 + k ≡ k = omega arith in
    e ∙ ap (λ m. m ++ item ∷ []) h ∙ ap (λ v. map f (range_with_len 0 k) ++ v ∷ []) is ∙ sym (map-range_with_len_more f 0 k k z)

-- an item that is refused, where more items were wanted
pub too_long : {T : Type 0} (r : Result T KahnError) (e : KahnError) (made whole : List ℤ) → IsErrAnd r (λ y. y ≡ e) → (e ≡ OutOfMemory) ⊎ ((e ≡ Limit limit.KahnItems) × (most_items ≤ length made)) →
    length made < length whole → IfErr r (Overflows whole)
too_long r e made whole i why l =
    let p = err_from_is_err_and r i in
    subst (λ x. IfErr x (Overflows whole)) (sym p.1) (subst (Overflows whole) (sym p.2) (by_why why))
  where
    by_why : (e ≡ OutOfMemory) ⊎ ((e ≡ Limit limit.KahnItems) × (most_items ≤ length made)) → Overflows whole e
    by_why (inl none) = inl none
    by_why (inr full) = inr (full.0, omega (arith, full.1))
