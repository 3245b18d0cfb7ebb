-- The sizes that the checker gives are those of the buffers, in order of their numbers.
use Rattle.std.proofs.Common.{ℕ, zero, suc, ◌+◌, ◌<◌, ◌≡◌, ◌++◌, drop, append-nil, List, [], ◌∷◌, length, Option, Some, None, ap, sym, refl, ◌∙◌, subst, arith, append_assoc}
use Rattle.std.specs.Prelude.{slice_get, option_to_list}
use Rattle.std.specs.List.{AllByRecursion}
use Rattle.std.proofs.lemmas.Option.{same_Some}
use Rattle.lucy_word.specs.Bits.{Bits}
use Rattle.lucy_word.specs.Shortest.{Same}
use Rattle.lucy_word.specs.Adaptable.{IsSize}
use Rattle.lucy_word.proofs.AdaptableLaws.{size_same}
use Rattle.lucy_word.proofs.OnLaws.{on_always}
use Rattle.lucy_place.specs.declared.entry.PlaceEntry.{PlaceEntry}
use Rattle.lucy_place.specs.declared.entry.PlaceKind.{PlaceKind}
use Rattle.lucy_place.specs.declared.entry.PlaceKind.TheVariants.{Param, Defined, Lit, Op, Host, When, Merge, Fby, Buffer, Result}
use Rattle.lucy_place.specs.declared.entry.CallSite.{CallSite}
use Rattle.lucy_place.specs.declared.placed.PlacedNode.{PlacedNode}
use Rattle.lucy_place.specs.Standing.{buffer_at, buffer_places, at_one, bound_of, Stands}
use Rattle.lucy_place.specs.Proper.{IsProperNode}
use Rattle.lucy_need.specs.declared.need.Term.{Term}
use Rattle.lucy_need.specs.declared.need.Need.{Need}
use Rattle.lucy_need.specs.declared.need.Need.TheVariants.{Equal, Adapt}
use Rattle.lucy_need.specs.Meeting.{Assignment, alone}
use Rattle.lucy_clock.specs.declared.signature.Signature.{Signature}
use Rattle.lucy_clock.specs.Listing.{word_needs, argument_needs, result_needs, operand_needs, bound_needs, no_signature, site_needs, call_needs, kind_needs, place_needs, needs_from, needs_of}
use Rattle.lucy_clock.specs.Clocks.{call_clock}
use Rattle.lucy_check.specs.Passing.{PassesAll}
use Rattle.lucy_front.specs.Sizes.{need_count, buffer_sizes}
use Rattle.std.specs.Prelude.{slice_index_or}
use Rattle.lucy_word.proofs.Lists.{all_join}
use Rattle.lucy_place.proofs.NodeLaws.{stands_one}

-- the sizes of needs, one list behind the other
pub split : (w : Assignment) (xs ys : List Need) (sizes : List ℕ) → PassesAll w (xs ++ ys) sizes →
    (front : List ℕ) × (back : List ℕ) × PassesAll w xs front × PassesAll w ys back × (sizes ≡ front ++ back)
split w [] ys sizes p = ([], sizes, refl, p, refl)
split w (x ∷ xs) ys sizes p =
    let rest = split w xs ys p.1 p.3 in
    (option_to_list p.0 ++ rest.0, rest.1, (p.0, rest.0, p.2, rest.2, refl), rest.3, p.4 ∙ ap (λ l. option_to_list p.0 ++ l) rest.4 ∙ sym (append_assoc (option_to_list p.0) rest.0 rest.1))

-- equations have no size
abbrev IsEqual : Need → Type 0
IsEqual (Equal s t) = Unit {0}
IsEqual (Adapt s t) = ⊥

abbrev AreEqual : List Need → Type 0
AreEqual needs = AllByRecursion IsEqual needs

none_of : (w : Assignment) (needs : List Need) (sizes : List ℕ) → AreEqual needs → PassesAll w needs sizes → sizes ≡ []
none_of w [] sizes all p = p
none_of w (Equal s t ∷ needs) sizes all p = p.4 ∙ ap (λ o. option_to_list o ++ p.1) p.2.4 ∙ none_of w needs p.1 all.1 p.3
none_of w (Adapt s t ∷ needs) sizes all p = absurd all.0

one_equal : (w : Assignment) (s t : Term) (sizes : List ℕ) → PassesAll w (Equal s t ∷ []) sizes → sizes ≡ []
one_equal w s t sizes p = none_of w (Equal s t ∷ []) sizes (tt, tt) p

two_equal : (w : Assignment) (s t u v : Term) (sizes : List ℕ) → PassesAll w (Equal s t ∷ Equal u v ∷ []) sizes → sizes ≡ []
two_equal w s t u v sizes p = none_of w (Equal s t ∷ Equal u v ∷ []) sizes (tt, (tt, tt)) p

words_equal : (clock : ℕ) (written : Option Bits) → AreEqual (word_needs clock written)
words_equal clock None = tt
words_equal clock (Some word) = (tt, tt)

operands_equal : (place : ℕ) (args : List ℕ) → AreEqual (operand_needs place args)
operands_equal place [] = tt
operands_equal place (arg ∷ args) = (tt, operands_equal place args)

arguments_equal : (base : ℕ) (args : List ℕ) (words : List Bits) → AreEqual (argument_needs base args words)
arguments_equal base [] words = tt
arguments_equal base (arg ∷ args) [] = tt
arguments_equal base (arg ∷ args) (word ∷ words) = (tt, arguments_equal base args words)

results_equal : (base place : ℕ) (words : List Bits) → AreEqual (result_needs base place words)
results_equal base place [] = tt
results_equal base place (word ∷ words) = (tt, results_equal base (place + 1) words)

site_equal : (above : List Signature) (base place : ℕ) (o : Option CallSite) → AreEqual (site_needs above base place o)
site_equal above base place None = tt
site_equal above base place (Some site) =
    let ports : Signature = slice_index_or above site.node no_signature in
    all_join IsEqual (word_needs base site.at) (argument_needs base site.args ports.params ++ result_needs base place ports.results) (words_equal base site.at)
    (all_join IsEqual (argument_needs base site.args ports.params) (result_needs base place ports.results) (arguments_equal base site.args ports.params) (results_equal base place ports.results))

call_equal : (above : List Signature) (n : PlacedNode) (place call j : ℕ) → AreEqual (call_needs above n place call j)
call_equal above n place call zero = site_equal above (call_clock n call) place (at_one n.calls call)
call_equal above n place call (suc j) = tt

-- a size for each of these places
abbrev pub Sized : Assignment → PlacedNode → List ℕ → List ℕ → Type 0
Sized w n [] sizes = sizes ≡ []
Sized w n (p ∷ ps) sizes = (size : ℕ) × (rest : List ℕ) × ((k e : ℕ) → Stands n p (Buffer k e) → IsSize (w e) (w p) size) × Sized w n ps rest × (sizes ≡ size ∷ rest)

-- the sizes of the needs of these places, which are those of the buffers from a number on: of each first its own
abbrev Listed : Assignment → PlacedNode → ℕ → List ℕ → List ℕ → Type 0
Listed w n k [] sizes = sizes ≡ []
Listed w n k (p ∷ ps) sizes =
    (size : ℕ) × (more rest : List ℕ) × ((j e : ℕ) → Stands n p (Buffer j e) → IsSize (w e) (w p) size) × (1 + length more ≡ need_count (bound_of n k))
    × Listed w n (suc k) ps rest × (sizes ≡ size ∷ (more ++ rest))

listed_join : (w : Assignment) (n : PlacedNode) (k : ℕ) (ps qs front back : List ℕ) → Listed w n k ps front → Listed w n (k + length ps) qs back → Listed w n k (ps ++ qs) (front ++ back)
listed_join w n k [] qs front back h b = let z : k + 0 ≡ k = omega arith in subst (λ l. Listed w n k qs (l ++ back)) (sym h) (subst (λ m. Listed w n m qs back) z b)
listed_join w n k (p ∷ ps) qs front back h b =
    let z : k + suc (length ps) ≡ suc k + length ps = omega arith in (
      h.0,
      h.1,
      h.2 ++ back,
      h.3,
      h.4,
      listed_join w n (suc k) ps qs h.2 back h.5 (subst (λ m. Listed w n m qs back) z b),
      ap (λ l. l ++ back) h.6 ∙ ap (λ l. h.0 ∷ l) (append_assoc h.1 h.2 back),
    )

number_one : (k e j f : ℕ) → Buffer k e ≡ Buffer j f → k ≡ j
number_one k e j f h = cc h

operand_one : (k e j f : ℕ) → Buffer k e ≡ Buffer j f → e ≡ f
operand_one k e j f h = cc h

-- the need of a bound has one size
bound_sized : (w : Assignment) (p e : ℕ) (most : Option ℕ) (sizes : List ℕ) → PassesAll w (bound_needs p e most) sizes → 1 + length sizes ≡ need_count most
bound_sized w p e None sizes h = ap (λ l. 1 + length l) h
bound_sized w p e (Some most) sizes h = ap (λ l. 1 + length l) (h.4 ∙ ap (λ o. option_to_list o ++ h.1) h.2.5 ∙ ap (λ l. h.2.3 ∷ l) h.3)

-- the size of a buffer
size_of : (w : Assignment) (n : PlacedNode) (p k e : ℕ) (front : List ℕ) → Stands n p (Buffer k e) → PassesAll w (Adapt (alone e) (alone p) ∷ bound_needs p e (bound_of n k)) front → Listed w n k (p ∷ []) front
size_of w n p k e front stands h =
    let passes = h.2 in
    let of_operand : Same passes.0 (w e) = λ i l. passes.2.first.is.on i l ∙ on_always (w e) i l in
    let of_place : Same passes.1 (w p) = λ i l. passes.2.second.is.on i l ∙ on_always (w p) i l in
    let is : IsSize (w e) (w p) passes.3 = size_same passes.0 passes.1 (w e) (w p) passes.3 of_operand of_place passes.4.1 in (
      passes.3,
      h.1,
      [],
      λ j f t. subst (λ x. IsSize (w x) (w p) passes.3) (operand_one k e j f (stands_one n p (Buffer k e) (Buffer j f) stands t)) is,
      bound_sized w p e (bound_of n k) h.1 h.3,
      refl,
      h.4 ∙ ap (λ o. option_to_list o ++ h.1) passes.5 ∙ ap (λ l. passes.3 ∷ l) (sym (append-nil h.1)),
    )

-- the buffers from a number on are these places
abbrev AreFrom : PlacedNode → ℕ → List ℕ → Type 0
AreFrom n k ps = (i p : ℕ) → slice_get ps i ≡ Some p → at_one n.buffers (k + i) ≡ Some p

from_front : (n : PlacedNode) (k : ℕ) (ps qs : List ℕ) → AreFrom n k (ps ++ qs) → AreFrom n k ps
from_front n k [] qs at i p e = absurd (cc e)
from_front n k (q ∷ ps) qs at zero p e = at zero p e
from_front n k (q ∷ ps) qs at (suc i) p e =
    let f : suc k + i ≡ k + suc i = omega arith in
    subst (λ m. at_one n.buffers m ≡ Some p) f (from_front n (suc k) ps qs (λ j r d. let g : k + suc j ≡ suc k + j = omega arith in subst (λ m. at_one n.buffers m ≡ Some r) g (at (suc j) r d)) i p e)

from_back : (n : PlacedNode) (k : ℕ) (ps qs : List ℕ) → AreFrom n k (ps ++ qs) → AreFrom n (k + length ps) qs
from_back n k [] qs at i p e = let f : k + i ≡ k + 0 + i = omega arith in subst (λ m. at_one n.buffers m ≡ Some p) f (at i p e)
from_back n k (q ∷ ps) qs at i p e =
    let f : suc k + length ps + i ≡ k + suc (length ps) + i = omega arith in
    subst (λ m. at_one n.buffers m ≡ Some p) f
    (from_back n (suc k) ps qs (λ j r d. let g : k + suc j ≡ suc k + j = omega arith in subst (λ m. at_one n.buffers m ≡ Some r) g (at (suc j) r d)) i p e)

module _ (w : Assignment) (nodes : List PlacedNode) (above : List Signature) (n : PlacedNode) (proper : IsProperNode nodes n) where
  -- a buffer that stands at the place of a number has this number
  buffer_number : (k p j e : ℕ) → at_one n.buffers k ≡ Some p → Stands n p (Buffer j e) → j ≡ k
  buffer_number k p j e at stands = let own = proper.buffers k p at in number_one j e k own.0 (stands_one n p (Buffer j e) (Buffer k own.0) stands own.1)

  kind_listed : (k p : ℕ) (kind : PlaceKind) (front : List ℕ) → AreFrom n k (buffer_at p kind) → Stands n p kind → PassesAll w (kind_needs above n p kind) front → Listed w n k (buffer_at p kind) front
  kind_listed k p Param front at stands h = h
  kind_listed k p (Defined e) front at stands h = one_equal w _ _ front h
  kind_listed k p (Lit l) front at stands h = h
  kind_listed k p (Op op args) front at stands h = none_of w (operand_needs p args) front (operands_equal p args) h
  kind_listed k p (Host op a b) front at stands h = two_equal w _ _ _ _ front h
  kind_listed k p (When e word) front at stands h = one_equal w _ _ front h
  kind_listed k p (Merge word a b) front at stands h = two_equal w _ _ _ _ front h
  kind_listed k p (Fby l e) front at stands h = one_equal w _ _ front h
  kind_listed k p (Buffer j e) front at stands h =
      let z : k + 0 ≡ k = omega arith in
      subst (λ m. Listed w n m (p ∷ []) front) (buffer_number k p j e (subst (λ m. at_one n.buffers m ≡ Some p) z (at 0 p refl)) stands) (size_of w n p j e front stands h)
  kind_listed k p (Result call j) front at stands h = none_of w (call_needs above n p call j) front (call_equal above n p call j) h

  -- and those of places from a number on
  from_listed : (k p : ℕ) (entries : List PlaceEntry) (sizes : List ℕ) → AreFrom n k (buffer_places p entries) →
      ((i : ℕ) (entry : PlaceEntry) → slice_get entries i ≡ Some entry → at_one n.places (p + i) ≡ Some entry) → PassesAll w (needs_from above n p entries) sizes → Listed w n k (buffer_places p entries) sizes
  from_listed k p [] sizes numbers at h = h
  from_listed k p (entry ∷ entries) sizes numbers at h =
      let all = split w (place_needs above n p entry) (needs_from above n (p + 1) entries) sizes h in
      let own = split w (word_needs p entry.word) (kind_needs above n p entry.kind) all.0 all.2 in
      let none = none_of w (word_needs p entry.word) own.0 (words_equal p entry.word) own.2 in
      let z : p + 0 ≡ p = omega arith in
      let here : at_one n.places p ≡ Some entry = subst (λ q. at_one n.places q ≡ Some entry) z (at 0 entry refl) in
      let ps : List ℕ = buffer_at p entry.kind in
      let qs : List ℕ = buffer_places (p + 1) entries in
      let kind = kind_listed k p entry.kind own.1 (from_front n k ps qs numbers) (entry, here, refl) own.3 in
      let front : Listed w n k ps all.0 = subst (Listed w n k ps) (sym (own.4 ∙ ap (λ l. l ++ own.1) none)) kind in
      let back = from_listed (k + length ps) (p + 1) entries all.1 (from_back n k ps qs numbers)
      (λ i x e. let g : p + suc i ≡ p + 1 + i = omega arith in subst (λ q. at_one n.places q ≡ Some x) g (at (suc i) x e)) all.3 in
      subst (Listed w n k (buffer_places p (entry ∷ entries))) (sym all.4) (listed_join w n k ps qs all.0 all.1 front back)

  node_listed : (sizes : List ℕ) → PassesAll w (needs_of above n) sizes → Listed w n 1 n.buffers sizes
  node_listed sizes h =
      let order = proper.in_order in
      subst (λ l. Listed w n 1 l sizes) (sym order) (from_listed 1 1 n.places sizes
      (λ i p e. let g : suc i ≡ 1 + i = omega arith in subst (λ m. at_one n.buffers m ≡ Some p) g (ap (λ l. slice_get l i) order ∙ e))
      (λ i x e. let g : suc i ≡ 1 + i = omega arith in subst (λ q. at_one n.places q ≡ Some x) g e) h)

-- of listed sizes the first of each buffer are the sizes of the buffers
listed_sized : (w : Assignment) (n : PlacedNode) (k : ℕ) (ps : List ℕ) (bounds : List (Option ℕ)) (sizes : List ℕ) → length bounds ≡ length ps →
    ((i : ℕ) → i < length bounds → bound_of n (k + i) ≡ slice_index_or bounds i None) → Listed w n k ps sizes → Sized w n ps (buffer_sizes bounds sizes)
listed_sized w n k [] [] sizes count at h = refl
listed_sized w n k [] (most ∷ bounds) sizes count at h = absurd (omega (arith, count))
listed_sized w n k (p ∷ ps) [] sizes count at h = absurd (omega (arith, count))
listed_sized w n k (p ∷ ps) (most ∷ bounds) sizes count at h =
    let z : k + 0 ≡ k = omega arith in
    let bound : bound_of n k ≡ most = subst (λ m. bound_of n m ≡ most) z (at 0 (omega arith)) in
    let many : need_count most ≡ suc (length h.1) = (let a = h.4 in let b = ap need_count bound in omega arith) in
    let rest : drop (need_count most) sizes ≡ h.2 = ap (λ m. drop m sizes) many ∙ ap (drop (suc (length h.1))) h.6 ∙ drop_front h.1 h.2 in
    let back = listed_sized w n (suc k) ps bounds h.2 (omega (arith, count))
    (λ i l. let g : k + suc i ≡ suc k + i = omega arith in subst (λ m. bound_of n m ≡ slice_index_or bounds i None) g (at (suc i) (omega (arith, l)))) h.5 in (
      h.0,
      buffer_sizes bounds h.2,
      h.3,
      back,
      ap (λ l. slice_index_or l 0 0 ∷ buffer_sizes bounds (drop (need_count most) sizes)) h.6 ∙ ap (λ l. h.0 ∷ buffer_sizes bounds l) rest,
    )
  where
    drop_front : (xs ys : List ℕ) → drop (length xs) (xs ++ ys) ≡ ys
    drop_front [] ys = refl
    drop_front (x ∷ xs) ys = drop_front xs ys

pub node_sized : (w : Assignment) (nodes : List PlacedNode) (above : List Signature) (n : PlacedNode) (sizes : List ℕ) → IsProperNode nodes n → PassesAll w (needs_of above n) sizes →
    Sized w n n.buffers (buffer_sizes n.bounds sizes)
node_sized w nodes above n sizes proper h =
    listed_sized w n 1 n.buffers n.bounds sizes proper.bounds (λ i l. let g : suc i ≡ 1 + i = omega arith in subst (λ m. bound_of n m ≡ slice_index_or n.bounds i None) g refl) (node_listed w nodes above n proper sizes h)

-- by number
pub sized_count : (w : Assignment) (n : PlacedNode) (ps sizes : List ℕ) → Sized w n ps sizes → length sizes ≡ length ps
sized_count w n [] sizes h = ap length h
sized_count w n (p ∷ ps) sizes h = ap length h.4 ∙ ap suc (sized_count w n ps h.1 h.3)

pub sized_at : (w : Assignment) (n : PlacedNode) (ps sizes : List ℕ) → Sized w n ps sizes → (i p k e size : ℕ) → slice_get ps i ≡ Some p → slice_get sizes i ≡ Some size → Stands n p (Buffer k e) → IsSize (w e) (w p) size
sized_at w n [] sizes h i p k e size at of stands = absurd (cc at)
sized_at w n (q ∷ ps) sizes h zero p k e size at of stands =
    let place : q ≡ p = same_Some q p at in
    let one : h.0 ≡ size = same_Some h.0 size (sym (ap (λ l. slice_get l 0) h.4) ∙ of) in
    subst (λ s. IsSize (w e) (w p) s) one (subst (λ r. Stands n r (Buffer k e) → IsSize (w e) (w r) h.0) place (h.2 k e) stands)
sized_at w n (q ∷ ps) sizes h (suc i) p k e size at of stands =
    sized_at w n ps h.1 h.3 i p k e size at (sym (ap (λ l. slice_get l (suc i)) h.4) ∙ of) stands
