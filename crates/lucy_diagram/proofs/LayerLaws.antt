-- Layers are the same in whichever order they are found.
use Rattle.std.proofs.Common.{ℕ, zero, suc, ◌+◌, ◌≡◌, ◌<◌, ◌⊎◌, max, Bool, cond, List, [], ◌∷◌, Option, Some, None, map, length, get_or, set, replicate, refl, sym, ap, ◌∙◌, subst, arith, inl, inr}
use Rattle.std.specs.Prelude.{◌==◌, ◌&&◌, is_none, slice_get, filter, unwrap_or, count_by}
use Rattle.std.specs.Option.{option_map_or}
use Rattle.std.proofs.lemmas.Bool.{cases_eq, cases_order, cases_Bool, eq-eqb, ne_eqb}
use Rattle.std.proofs.lemmas.List.{length-set, get_or-set_same, get_or-set_other, set_comm}
use Rattle.std.proofs.lemmas.List.Sums.{sum_by-set}
use Rattle.std.proofs.lemmas.Option.{none-some, same_Some, slice_get_within, get_or_from_slice_get}
use Rattle.lucy_word.proofs.Lists.{get_set_same, get_set_other}
use Rattle.lucy_diagram.specs.declared.diagram.Diagram.{Diagram}
use Rattle.lucy_diagram.specs.declared.layers.ways.Way.{Way}
use Rattle.lucy_diagram.specs.Layers.{ways_of, spares_of, IsLeft, waits_at, waits_of, behind, reach, least_layer, with_layer, IsSpare, Finds, none, free, spare, OneLayering}
use Rattle.lucy_diagram.specs.Layering.{is_from, count_to, reached, left_of}

abbrev one_if : Bool → ℕ
one_if b = cond b 1 0

-- a place that is left behind a write was, and is another
pub left_old : (F : List (Option ℕ)) (p k q : ℕ) → IsLeft (set F p (Some k)) q → (q ≡ p → ⊥) × IsLeft F q
left_old F p k q left =
    let ne : q ≡ p → ⊥ = λ e. none-some k (get_set_same F p (Some k) None (ap (slice_get (set F p (Some k))) (sym e) ∙ left)) in
    (ne, sym (get_set_other F p q (Some k) ne) ∙ left)

-- the way of a place, before and after its layer is found
at_left : (F : List (Option ℕ)) (p : ℕ) (w : Way) → w.from ≡ p → IsLeft F p → get_or F w.from None ≡ None
at_left F p w e left = ap (λ i. get_or F i None) e ∙ get_or_from_slice_get F p None None left

at_found : (F : List (Option ℕ)) (p k : ℕ) (w : Way) → w.from ≡ p → IsLeft F p → get_or (set F p (Some k)) w.from None ≡ Some k
at_found F p k w e left = ap (λ i. get_or (set F p (Some k)) i None) e ∙ get_or-set_same F p (Some k) None (slice_get_within F p None left)

from_yes : (p : ℕ) (w : Way) (ws : List Way) → w.from ≡ p → filter (is_from p) (w ∷ ws) ≡ w ∷ filter (is_from p) ws
from_yes p w ws e = ap (λ (b : Bool). cond b (w ∷ filter (is_from p) ws) (filter (is_from p) ws)) (eq-eqb w.from p e)

from_no : (p : ℕ) (w : Way) (ws : List Way) → (w.from ≡ p → ⊥) → filter (is_from p) (w ∷ ws) ≡ filter (is_from p) ws
from_no p w ws n = ap (λ (b : Bool). cond b (w ∷ filter (is_from p) ws) (filter (is_from p) ws)) (ne_eqb w.from p n)

-- once the layer of a place is found, the ways from it are no longer waited for
pub waits_set : (W : List Way) (F : List (Option ℕ)) (p k q : ℕ) → IsLeft F p → waits_of F q W ≡ waits_of (set F p (Some k)) q W + count_to q (filter (is_from p) W)
waits_set [] F p k q left = refl
waits_set (w ∷ ws) F p k q left =
    let rest = waits_set ws F p k q left in
    elim (cases_eq w.from p) [
      | inl e ↦
          let kept : count_to q (filter (is_from p) (w ∷ ws)) ≡ one_if (w.to == q) + count_to q (filter (is_from p) ws) = ap (count_to q) (from_yes p w ws e) in
          let old : one_if (waits_at F q w) ≡ one_if (w.to == q) = ap (λ (o : Option ℕ). one_if (is_none o && (w.to == q))) (at_left F p w e left) in
          let new : one_if (waits_at (set F p (Some k)) q w) ≡ 0 = ap (λ (o : Option ℕ). one_if (is_none o && (w.to == q))) (at_found F p k w e left) in omega arith
      | inr n ↦
          let kept : count_to q (filter (is_from p) (w ∷ ws)) ≡ count_to q (filter (is_from p) ws) = ap (count_to q) (from_no p w ws n) in
          let same : one_if (waits_at (set F p (Some k)) q w) ≡ one_if (waits_at F q w) =
          ap (λ (o : Option ℕ). one_if (is_none o && (w.to == q))) (get_or-set_other F p w.from (Some k) None n) in omega arith
    ]

-- and they raise the layers behind it
pub layer_set : (W : List Way) (F : List (Option ℕ)) (p k q : ℕ) → IsLeft F p → least_layer (set F p (Some k)) q W ≡ max (least_layer F q W) (reached k q (filter (is_from p) W))
layer_set [] F p k q left = refl
layer_set (w ∷ ws) F p k q left =
    let rest = layer_set ws F p k q left in
    elim (cases_eq w.from p) [
      | inl e ↦
          let kept : reached k q (filter (is_from p) (w ∷ ws)) ≡ max (behind k q w) (reached k q (filter (is_from p) ws)) = ap (reached k q) (from_yes p w ws e) in
          let old : reach F q w ≡ 0 = ap (λ (o : Option ℕ). option_map_or (λ l. behind l q w) o 0) (at_left F p w e left) in
          let new : reach (set F p (Some k)) q w ≡ behind k q w = ap (λ (o : Option ℕ). option_map_or (λ l. behind l q w) o 0) (at_found F p k w e left) in omega arith
      | inr n ↦
          let kept : reached k q (filter (is_from p) (w ∷ ws)) ≡ reached k q (filter (is_from p) ws) = ap (reached k q) (from_no p w ws n) in
          let same : reach (set F p (Some k)) q w ≡ reach F q w = ap (λ (o : Option ℕ). option_map_or (λ l. behind l q w) o 0) (get_or-set_other F p w.from (Some k) None n) in omega arith
    ]

-- a place to which none of these ways leads isn't raised by them
no_reach : (k q : ℕ) (ws : List Way) → count_to q ws ≡ 0 → reached k q ws ≡ 0
no_reach k q [] h = refl
no_reach k q (w ∷ ws) h = elim (cases_Bool (w.to == q)) [
  | inl t ↦ absurd (let a : one_if (w.to == q) ≡ 1 = ap one_if t in omega arith)
  | inr f ↦
      let a : one_if (w.to == q) ≡ 0 = ap one_if f in
      let b : behind k q w ≡ 0 = ap (λ (t : Bool). cond t (k + cond w.is_read 1 0) 0) f in
      let c : reached k q ws ≡ 0 = no_reach k q ws (omega arith) in omega arith
]

abbrev one_none : Option ℕ → ℕ
one_none o = cond (is_none o) 1 0

-- one place less is left
pub left_set : (F : List (Option ℕ)) (p k : ℕ) → IsLeft F p → left_of (set F p (Some k)) + 1 ≡ left_of F
left_set F p k left =
    let s = sum_by-set one_none F p (Some k) None (slice_get_within F p None left) in
    let e : one_none (get_or F p None) ≡ 1 = ap one_none (get_or_from_slice_get F p None None left) in omega arith

-- a place whose layer may be found next
record Takes (W : List Way) (S : List ℕ) (F : List (Option ℕ)) (p : ℕ) : Type 0 where
  left : IsLeft F p
  how : (waits_of F p W ≡ 0) ⊎ (((q : ℕ) → IsLeft F q → 0 < waits_of F q W) × IsSpare S F p)

takes : (W : List Way) (S : List ℕ) (old F : List (Option ℕ)) (p : ℕ) → Finds W S old F → Takes W S F p → Finds W S old (with_layer W F p)
takes W S old F p f t = elim t.how [ inl a ↦ free p f t.left a | inr b ↦ spare p f t.left b.0 b.1 ]

-- one that waits for none may still be taken behind another, and has the same layer
still_free : (W : List Way) (S : List ℕ) (F : List (Option ℕ)) (p q : ℕ) → (p ≡ q → ⊥) → IsLeft F p → IsLeft F q → waits_of F q W ≡ 0 → Takes W S (with_layer W F p) q
still_free W S F p q ne one other z = record {
  left = get_set_other F p q (Some (least_layer F p W)) (λ e. ne (sym e)) ∙ other;
  how = inl (let s = waits_set W F p (least_layer F p W) q one in omega arith);
}

same_layer : (W : List Way) (F : List (Option ℕ)) (p k q : ℕ) → IsLeft F p → waits_of F q W ≡ 0 → least_layer (set F p (Some k)) q W ≡ least_layer F q W
same_layer W F p k q left z =
    let s = waits_set W F p k q left in
    let c : count_to q (filter (is_from p) W) ≡ 0 = omega arith in
    let r = no_reach k q (filter (is_from p) W) c in
    let l = layer_set W F p k q left in omega arith

either_first : (W : List Way) (F : List (Option ℕ)) (p q : ℕ) → (p ≡ q → ⊥) → IsLeft F p → IsLeft F q → waits_of F p W ≡ 0 → waits_of F q W ≡ 0 →
    with_layer W (with_layer W F p) q ≡ with_layer W (with_layer W F q) p
either_first W F p q ne one other y z =
    ap (λ (l : ℕ). set (with_layer W F p) q (Some l)) (same_layer W F p (least_layer F p W) q one z)
    ∙ set_comm F p q (Some (least_layer F p W)) (Some (least_layer F q W)) ne
    ∙ sym (ap (λ (l : ℕ). set (with_layer W F q) p (Some l)) (same_layer W F q (least_layer F q W) p other y))

-- there is one first spare place
one_spare : (S : List ℕ) (F : List (Option ℕ)) (p q : ℕ) → IsLeft F p → IsLeft F q → IsSpare S F p → IsSpare S F q → p ≡ q
one_spare S F p q one other a b = elim (cases_order a.number b.number) [
  | inl e ↦ same_Some p q (sym a.there ∙ ap (slice_get S) e ∙ b.there)
  | inr r ↦ elim r [ inl l ↦ absurd (b.first a.number p l a.there one) | inr g ↦ absurd (a.first b.number q g b.there other) ]
]

-- of two places that may be taken, either may be first
diamond : (W : List Way) (S : List ℕ) (F : List (Option ℕ)) (p q : ℕ) → Takes W S F p → Takes W S F q →
    (p ≡ q) ⊎ (Takes W S (with_layer W F p) q × Takes W S (with_layer W F q) p × (with_layer W (with_layer W F p) q ≡ with_layer W (with_layer W F q) p))
diamond W S F p q a b = elim (cases_eq p q) [
  | inl e ↦ inl e
  | inr ne ↦ elim a.how [
    | inl x ↦ elim b.how [
      | inl y ↦ inr (still_free W S F p q ne a.left b.left y, still_free W S F q p (λ e. ne (sym e)) b.left a.left x, either_first W F p q ne a.left b.left x y)
      | inr y ↦ absurd (let s = y.0 p a.left in omega arith)
    ]
    | inr x ↦ elim b.how [ inl y ↦ absurd (let s = x.0 q b.left in omega arith) | inr y ↦ inl (one_spare S F p q a.left b.left x.1 y.1) ]
  ]
]

-- what is found from one state on is found from the other on, or behind one place more
abbrev Joins : List Way → List ℕ → List (Option ℕ) → List (Option ℕ) → Type 0
Joins W S Y Z = Finds W S Y Z ⊎ ((q : ℕ) × Takes W S Z q × Finds W S Y (with_layer W Z q))

joins_more : (W : List Way) (S : List ℕ) (Y Z : List (Option ℕ)) (r : ℕ) → Joins W S Y Z → Takes W S Z r → Joins W S Y (with_layer W Z r)
joins_more W S Y Z r j t = elim j [
  | inl f ↦ inl (takes W S Y Z r f t)
  | inr u ↦ elim (diamond W S Z r u.0 t u.1) [
    | inl e ↦ inl (subst (λ (i : ℕ). Finds W S Y (with_layer W Z i)) (sym e) u.2)
    | inr d ↦ inr (u.0, d.0, subst (λ (F : List (Option ℕ)). Finds W S Y F) (sym d.2) (takes W S Y (with_layer W Z u.0) r u.2 d.1))
  ]
]

joins : (W : List Way) (S : List ℕ) (X : List (Option ℕ)) (p : ℕ) {Z : List (Option ℕ)} → Takes W S X p → Finds W S X Z → Joins W S (with_layer W X p) Z
joins W S X p t none = inr (p, t, none)
joins W S X p t (free {found = Z} r f l w) = joins_more W S (with_layer W X p) Z r (joins W S X p t f) (record { left = l; how = inl w })
joins W S X p t (spare {found = Z} r f l a s) = joins_more W S (with_layer W X p) Z r (joins W S X p t f) (record { left = l; how = inr (a, s) })

-- none is left
abbrev IsEnd : List (Option ℕ) → Type 0
IsEnd F = (q : ℕ) → IsLeft F q → ⊥

step_on : (W : List Way) (S : List ℕ) (Y Z : List (Option ℕ)) (r : ℕ) → Finds W S Y Z → IsEnd Z → Takes W S Y r → Finds W S (with_layer W Y r) Z
step_on W S Y Z r f e t = elim (joins W S Y r t f) [ inl g ↦ g | inr u ↦ absurd (e u.0 u.1.left) ]

onward : (W : List Way) (S : List ℕ) (X Z : List (Option ℕ)) {Y : List (Option ℕ)} → Finds W S X Z → IsEnd Z → Finds W S X Y → Finds W S Y Z
onward W S X Z f e none = f
onward W S X Z f e (free {found = Y} r g l w) = step_on W S Y Z r (onward W S X Z f e g) e (record { left = l; how = inl w })
onward W S X Z f e (spare {found = Y} r g l a s) = step_on W S Y Z r (onward W S X Z f e g) e (record { left = l; how = inr (a, s) })

at_end : (W : List Way) (S : List ℕ) (Y : List (Option ℕ)) {Z : List (Option ℕ)} → IsEnd Y → Finds W S Y Z → Y ≡ Z
at_end W S Y e none = refl
at_end W S Y e (free {found = Z} r f l w) = absurd (e r (subst (λ (F : List (Option ℕ)). IsLeft F r) (sym (at_end W S Y e f)) l))
at_end W S Y e (spare {found = Z} r f l a s) = absurd (e r (subst (λ (F : List (Option ℕ)). IsLeft F r) (sym (at_end W S Y e f)) l))

-- lists of layers
abbrev all_found : List ℕ → List (Option ℕ)
all_found a = map (λ (k : ℕ). Some k) a

all_end : (a : List ℕ) → IsEnd (all_found a)
all_end [] q h = none-some {A = Option ℕ} None h
all_end (x ∷ xs) zero h = none-some x (sym (same_Some (Some x) None h))
all_end (x ∷ xs) (suc q) h = all_end xs q h

back : (a : List ℕ) → map (λ (o : Option ℕ). unwrap_or o 0) (all_found a) ≡ a
back [] = refl
back (x ∷ xs) = ap (λ l. x ∷ l) (back xs)

same_all : (a b : List ℕ) → all_found a ≡ all_found b → a ≡ b
same_all a b e = sym (back a) ∙ ap (map (λ (o : Option ℕ). unwrap_or o 0)) e ∙ back b

pub one_layering : OneLayering
one_layering d a b f g =
    let W = ways_of d in
    let S = spares_of d in
    let from = replicate (length d.places.items) None in
    same_all a b (at_end W S (all_found a) (all_end a) (onward W S from (all_found b) g (all_end b) f))

-- what is found from what is found
pub finds_on : (W : List Way) (S : List ℕ) (X Y : List (Option ℕ)) {Z : List (Option ℕ)} → Finds W S X Y → Finds W S Y Z → Finds W S X Z
finds_on W S X Y f none = f
finds_on W S X Y f (free r g l w) = free r (finds_on W S X Y f g) l w
finds_on W S X Y f (spare r g l a s) = spare r (finds_on W S X Y f g) l a s

-- what is left was left
pub finds_left : (W : List Way) (S : List ℕ) (X : List (Option ℕ)) {Y : List (Option ℕ)} (q : ℕ) → Finds W S X Y → IsLeft Y q → IsLeft X q
finds_left W S X q none h = h
finds_left W S X q (free {found = Z} r f l w) h = finds_left W S X q f (left_old Z r (least_layer Z r W) q h).1
finds_left W S X q (spare {found = Z} r f l a s) h = finds_left W S X q f (left_old Z r (least_layer Z r W) q h).1

-- as many places
pub finds_length : (W : List Way) (S : List ℕ) (X : List (Option ℕ)) {Y : List (Option ℕ)} → Finds W S X Y → length Y ≡ length X
finds_length W S X none = refl
finds_length W S X (free {found = Z} r f l w) = length-set Z r (Some (least_layer Z r W)) ∙ finds_length W S X f
finds_length W S X (spare {found = Z} r f l a s) = length-set Z r (Some (least_layer Z r W)) ∙ finds_length W S X f
