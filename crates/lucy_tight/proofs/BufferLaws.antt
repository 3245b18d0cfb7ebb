-- A buffer of a node is one of its needs, and is one thing.
use Rattle.std.proofs.Common.{◌≡◌, ℕ, zero, suc, ◌+◌, List, [], ◌∷◌, ◌++◌, ◌<◌, length, get_or, Some, sym, ap, ◌∙◌, subst, refl, arith, inl, inr}
use Rattle.std.specs.Prelude.{slice_get}
use Rattle.std.specs.List.{Contains}
use Rattle.std.specs.Option.{option_and_then}
use Rattle.std.proofs.lemmas.List.{get_or_default, length_push}
use Rattle.std.proofs.lemmas.List.Elements.{Contains-append_left, Contains-append_right}
use Rattle.std.proofs.lemmas.Option.{same_Some, slice_get-get_or}
use Rattle.lucy_place.specs.declared.entry.PlaceEntry.{PlaceEntry}
use Rattle.lucy_place.specs.declared.entry.PlaceKind.TheVariants.{Buffer}
use Rattle.lucy_place.specs.declared.placed.PlacedNode.{PlacedNode}
use Rattle.lucy_place.specs.Standing.{Stands}
use Rattle.lucy_place.specs.Reads.{operands_of}
use Rattle.lucy_types.proofs.ListLaws.{get_push}
use Rattle.lucy_need.specs.declared.need.Need.{Need}
use Rattle.lucy_need.specs.declared.need.Need.TheVariants.{Adapt}
use Rattle.lucy_word.specs.Bits.{Bits}
use Rattle.lucy_word.specs.Always.{always}
use Rattle.lucy_word.specs.Adaptable.{IsAdaptable, IsSize}
use Rattle.lucy_place.proofs.NodeLaws.{stands_one}
use Rattle.lucy_need.specs.Meeting.{Assignment, alone, assigned}
use Rattle.lucy_clock.specs.declared.signature.Signature.{Signature}
use Rattle.lucy_program.specs.Report.{first_operand}
use Rattle.lucy_clock.specs.Listing.{word_needs, kind_needs, place_needs, needs_from, needs_of}

pub operand_one : (n : PlacedNode) (p k e j f : ℕ) → Stands n p (Buffer k e) → Stands n p (Buffer j f) → e ≡ f
operand_one n p k e j f s t = let h = stands_one n p (Buffer k e) (Buffer j f) s t in cc h

-- a need of a place is one of the node
from_place : (above : List Signature) (n : PlacedNode) (need : Need) (p : ℕ) (entries : List PlaceEntry) (i : ℕ) (entry : PlaceEntry) → slice_get entries i ≡ Some entry →
    Contains (place_needs above n (p + i) entry) need → Contains (needs_from above n p entries) need
from_place above n need p [] i entry at has = absurd (cc at)
from_place above n need p (x ∷ entries) zero entry at has =
    let z : p + 0 ≡ p = omega arith in
    Contains-append_left (place_needs above n p x) (needs_from above n (p + 1) entries) need
    (subst (λ q. Contains (place_needs above n q x) need) z (subst (λ y. Contains (place_needs above n (p + 0) y) need) (sym (same_Some x entry at)) has))
from_place above n need p (x ∷ entries) (suc i) entry at has =
    let z : p + suc i ≡ p + 1 + i = omega arith in
    Contains-append_right (place_needs above n p x) (needs_from above n (p + 1) entries) need
    (from_place above n need (p + 1) entries i entry at (subst (λ q. Contains (place_needs above n q entry) need) z has))

-- that of a buffer is the first of its place behind that of a written word
buffer_place : (above : List Signature) (n : PlacedNode) (p k e : ℕ) (entry : PlaceEntry) → entry.kind ≡ Buffer k e → Contains (place_needs above n p entry) (Adapt (alone e) (alone p))
buffer_place above n p k e entry is =
    Contains-append_right (word_needs p entry.word) (kind_needs above n p entry.kind) (Adapt (alone e) (alone p))
    (subst (λ kind. Contains (kind_needs above n p kind) (Adapt (alone e) (alone p))) (sym is) (0, omega arith, refl))

pub buffer_need : (above : List Signature) (n : PlacedNode) (p k e : ℕ) → Stands n p (Buffer k e) → Contains (needs_of above n) (Adapt (alone e) (alone p))
buffer_need above n zero k e stands = absurd (let h = stands.1 in cc)
buffer_need above n (suc i) k e stands =
    let z : suc i ≡ 1 + i = omega arith in
    from_place above n (Adapt (alone e) (alone (suc i))) 1 n.places i stands.0 stands.1
    (subst (λ q. Contains (place_needs above n q stands.0) (Adapt (alone e) (alone (suc i)))) z (buffer_place above n (suc i) k e stands.0 stands.2))

-- it reads one place first
pub operand_read : (n : PlacedNode) (p k e : ℕ) → Stands n p (Buffer k e) → first_operand n p ≡ Some e
operand_read n p k e stands =
    ap (λ o. option_and_then (λ (x : PlaceEntry). slice_get (operands_of x.kind) 0) o) stands.1 ∙ ap (λ kind. slice_get (operands_of kind) 0) stands.2

-- a word that is read from a list
pub read_word : (words : List Bits) (c : ℕ) (w : Bits) → c < length words → w ≡ get_or words c w → assigned words c ≡ w
read_word words c w l is = get_or_default words c always w l ∙ sym is

-- of two words of a list
pub adaptable_read : (words : List Bits) (from to : ℕ) (a b : Bits) → assigned words from ≡ a → assigned words to ≡ b → IsAdaptable (assigned words from) (assigned words to) → IsAdaptable a b
adaptable_read words from to a b first second h = subst (λ x. IsAdaptable x b) first (subst (λ x. IsAdaptable (assigned words from) x) second h)

pub size_read : (words : List Bits) (from to : ℕ) (a b : Bits) (size : ℕ) → assigned words from ≡ a → assigned words to ≡ b → IsSize a b size → IsSize (assigned words from) (assigned words to) size
size_read words from to a b size first second h = subst (λ x. IsSize (assigned words from) x size) (sym second) (subst (λ x. IsSize x b size) (sym first) h)

-- one of the buffers of a node, in turn
pub place_here : (n : PlacedNode) (i : ℕ) (list : List ℕ) → list ≡ n.buffers → i < length list → slice_get n.buffers i ≡ Some (get_or list i 0)
place_here n i list same l = ap (λ xs. slice_get xs i) (sym same) ∙ slice_get-get_or list i 0 l

-- one more size
pub sizes_more : (n : PlacedNode) (w : Assignment) (old new : List ℕ) (i place size : ℕ) → slice_get n.buffers i ≡ Some place → length old ≡ i →
    ((j p k e s : ℕ) → slice_get n.buffers j ≡ Some p → slice_get old j ≡ Some s → Stands n p (Buffer k e) → IsSize (w e) (w p) s) → new ≡ old ++ size ∷ [] → ((k e : ℕ) → Stands n place (Buffer k e) → IsSize (w e) (w place) size) →
    (length new ≡ i + 1) × ((j p k e s : ℕ) → slice_get n.buffers j ≡ Some p → slice_get new j ≡ Some s → Stands n p (Buffer k e) → IsSize (w e) (w p) s)
sizes_more n w old new i place size at count before more own = (
  (let a = ap length more in let b = length_push old size in omega arith),
  λ j p k e s there of stands.
      elim (get_push old size j s (ap (λ l. slice_get l j) (sym more) ∙ of)) [
        | inl x ↦ before j p k e s there x.1 stands
        | inr x ↦
            let last : j ≡ i = x.0 ∙ count in
            let here : place ≡ p = same_Some place p (sym at ∙ ap (slice_get n.buffers) (sym last) ∙ there) in
            subst (λ q. IsSize (w e) (w q) s) here (subst (λ z. IsSize (w e) (w place) z) x.1 (own k e (subst (λ q. Stands n q (Buffer k e)) (sym here) stands)))
      ],
)
