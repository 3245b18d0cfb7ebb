-- What is known of the reader of a place without a name.
use Rattle.std.proofs.Common.{ℕ, zero, suc, ◌+◌, ◌-◌, ◌<◌, ◌≤◌, ◌≡◌, List, Some, None, length, get_or, ap, sym, refl, ◌∙◌, subst, inl, inr, arith}
use Rattle.std.specs.Prelude.{slice_get, slice_index}
use Rattle.std.proofs.lemmas.Option.{same_Some, slice_get_read, get_or_from_slice_get}
use Rattle.lucy_word.specs.Bits.{Bits}
use Rattle.lucy_word.specs.Shortest.{Same}
use Rattle.lucy_word.specs.Stored.{IsStored}
use Rattle.lucy_word.specs.Always.{always}
use Rattle.lucy_place.specs.declared.entry.PlaceEntry.{PlaceEntry}
use Rattle.lucy_place.specs.declared.entry.PlaceKind.{PlaceKind}
use Rattle.lucy_place.specs.declared.placed.PlacedNode.{PlacedNode}
use Rattle.lucy_place.specs.Proper.{operands_of, at_one, Reads, IsUnnamed, IsReadOnce, AreReadOnce}
use Rattle.lucy_place.specs.WrittenNodes.{IsWritten}
use Rattle.lucy_place.proofs.NodeLaws.{at_one_within}
use Rattle.lucy_need.specs.Meeting.{Assignment, assigned}
use Rattle.lucy_clock.specs.HandedDown.{Hands, HandsTooLong}
use Rattle.lucy_clock.specs.Reading.{IsAmong, AreReadersUpto, AreLabelled, IsNextWord, IsTooLongBefore}
use Rattle.lucy_clock.proofs.HandLaws.{unnamed_named, named_or}
use Rattle.lucy_clock.proofs.MarkLaws.{unnamed_among, among_reads}

-- what stands at a number that counts from 1
one_get : {A : Type 0} (xs : List A) (p : ℕ) (x d : A) → at_one xs p ≡ Some x → get_or xs (p - 1) d ≡ x
one_get xs zero x d e = absurd (cc)
one_get xs (suc i) x d e = (let s : suc i - 1 ≡ i = omega arith in ap (λ k. get_or xs k d) s) ∙ get_or_from_slice_get xs i x d e

-- the entry that is read at a number from 1
pub one_read : {A : Type 0} (list xs : List A) (p : ℕ) (x : A) → list ≡ xs → 1 ≤ p → p ≤ length xs → x ≡ get_or list (p - 1) x → at_one xs p ≡ Some x
one_read list xs zero x e low high is = absurd (omega (arith, low))
one_read list xs (suc i) x e low high is =
    let f : suc i - 1 ≡ i = omega arith in
    subst (λ ys. slice_get ys i ≡ Some x) e
    (slice_get_read list (length list) i x refl (let l = ap length e in omega (arith, high)) (is ∙ ap (λ k. get_or list k x) f))

-- the same at a number from 0
pub index_read : {A : Type 0} (list xs : List A) (i : ℕ) (x : A) → list ≡ xs → i < length xs → x ≡ get_or list i x → at_one xs (i + 1) ≡ Some x
index_read list xs i x e l is =
    one_read list xs (i + 1) x e (omega arith) (omega (arith, l)) (is ∙ ap (λ k. get_or list k x) (let f : i ≡ i + 1 - 1 = omega arith in f))

-- the same entry as it is written where it is read
pub one_at : {A : Type 0} (list xs : List A) (p : ℕ) (x : A) → list ≡ xs → 1 ≤ p → p ≤ length xs → x ≡ get_or list (p - 1) x → at_one xs p ≡ Some (get_or list (p - 1) x)
one_at list xs p x e low high is = one_read list xs p x e low high is ∙ ap (λ y. Some y) is

module _ (n : PlacedNode) (is_written : IsWritten n) (once : AreReadOnce n) (place : ℕ) (un : IsUnnamed n place) (readers : List ℕ) (are : AreReadersUpto n (length n.places) readers) where
  abbrev pub one : IsReadOnce n place
  one = once place un

  pub reader_is : slice_index readers (place - 1) ≡ one.reader
  reader_is = are one.reader one.operand place (at_one_within n.places one.reader one.reads.entry one.reads.stands).1 un one.reads

  pub reader_bounds : (1 ≤ slice_index readers (place - 1)) × (slice_index readers (place - 1) ≤ length n.places) × (slice_index readers (place - 1) < place) × (1 ≤ place) × (place ≤ length n.places)
  reader_bounds =
      let b = at_one_within n.places one.reader one.reads.entry one.reads.stands in
      let c = at_one_within n.places place un.0 un.1 in
      let low = b.0 in
      let high = b.1 in
      let before = one.before in
      let is = reader_is in
      (omega arith, omega arith, omega arith, c.0, c.1)

  pub reader_entry : (places : List PlaceEntry) (d : PlaceEntry) → places ≡ n.places → get_or places (slice_index readers (place - 1) - 1) d ≡ one.reads.entry
  reader_entry places d e = ap (λ l. get_or l (slice_index readers (place - 1) - 1) d) e ∙ ap (λ r. get_or n.places (r - 1) d) reader_is ∙ one_get n.places one.reader one.reads.entry d one.reads.stands

  pub reader_word : (words : List Bits) (own : Bits) → slice_index readers (place - 1) < length words → own ≡ get_or words (slice_index readers (place - 1)) own → own ≡ assigned words one.reader
  reader_word words own l e =
      sym (get_or_from_slice_get words (slice_index readers (place - 1)) own always (slice_get_read words (length words) (slice_index readers (place - 1)) own refl l e)) ∙ ap (assigned words) reader_is

  among_at : (reads : Reads n one.reader one.operand place) → slice_get (operands_of one.reads.entry.kind) one.operand ≡ Some place
  among_at reads = unnamed_among n is_written one.reader one.operand place one.reads.entry.kind (one.reads.entry, one.reads.stands, refl) un one.reads.reads

  pub reader_among : (entry : PlaceEntry) → entry ≡ one.reads.entry → IsAmong (operands_of entry.kind) place
  reader_among entry e = subst (λ (x : PlaceEntry). IsAmong (operands_of x.kind) place) (sym e) (one.operand, among_at one.reads)

  operand_at : (entry : PlaceEntry) → entry ≡ one.reads.entry → (k : ℕ) → slice_get (operands_of entry.kind) k ≡ Some place → k ≡ one.operand
  operand_at entry e k f =
      let g : slice_get (operands_of one.reads.entry.kind) k ≡ Some place = subst (λ (x : PlaceEntry). slice_get (operands_of x.kind) k ≡ Some place) e f in
      (one.only one.reader k (record { entry = one.reads.entry; stands = one.reads.stands; reads = among_reads n k place one.reads.entry.kind g })).1

  pub reader_once : (entry : PlaceEntry) → entry ≡ one.reads.entry → (j k : ℕ) → slice_get (operands_of entry.kind) j ≡ Some place → slice_get (operands_of entry.kind) k ≡ Some place → j ≡ k
  reader_once entry e j k f g = operand_at entry e j f ∙ sym (operand_at entry e k g)

  -- what holds of the reader's kind and word holds of whatever reads the place
  pub reader_all : (P : PlaceKind → ℕ → Bits → Type 0) (w : Assignment) (entry : PlaceEntry) (own : Bits) → entry ≡ one.reads.entry → own ≡ w one.reader →
      ((k : ℕ) → slice_get (operands_of entry.kind) k ≡ Some place → P entry.kind k own) → (p k : ℕ) (reads : Reads n p k place) → P reads.entry.kind k (w p)
  reader_all P w entry own e f h p k reads =
      let at = one.only p k reads in
      let same : reads.entry ≡ one.reads.entry = same_Some reads.entry one.reads.entry (sym reads.stands ∙ ap (at_one n.places) at.0 ∙ one.reads.stands) in
      let among : slice_get (operands_of entry.kind) k ≡ Some place =
      subst (λ (x : PlaceEntry). slice_get (operands_of x.kind) k ≡ Some place) (same ∙ sym e) (unnamed_among n is_written p k place reads.entry.kind (reads.entry, reads.stands, refl) un reads.reads) in
      subst (λ (x : PlaceEntry). P x.kind k (w p)) (e ∙ sym same) (subst (P entry.kind k) (f ∙ ap w (sym at.0)) (h k among))

  -- and so does what its reader hands down to it
  pub reader_hands : (w : Assignment) (next : Bits) → Hands one.reads.entry.kind one.operand (w one.reader) next → (p k : ℕ) (reads : Reads n p k place) → Hands reads.entry.kind k (w p) next
  reader_hands w next hands =
      reader_all (λ kind k own. Hands kind k own next) w one.reads.entry (w one.reader) refl refl
      (λ k e. subst (λ m. Hands one.reads.entry.kind m (w one.reader) next) (sym (operand_at one.reads.entry refl k e)) hands)

  pub reader_long : (w : Assignment) (entry : PlaceEntry) (own : Bits) → entry ≡ one.reads.entry → own ≡ w one.reader → HandsTooLong entry.kind own → IsTooLongBefore n place w
  reader_long w entry own e f long = record {
    reader = one.reader;
    operand = one.operand;
    before = one.before;
    unnamed = un;
    reads = one.reads;
    hands = (one.reads.entry, one.reads.stands, subst (λ (x : PlaceEntry). HandsTooLong x.kind (w one.reader)) e (subst (HandsTooLong entry.kind) f long));
  }

-- in a written node a place without a word has no name
pub unnamed_of : (n : PlacedNode) → IsWritten n → (p : ℕ) (entry : PlaceEntry) → at_one n.places p ≡ Some entry → entry.word ≡ None → IsUnnamed n p
unnamed_of n is_written p entry here none =
    elim (named_or entry) [
      | inl named ↦ (let w = is_written.words p entry named.0 here named.1 in let e : None ≡ Some w.0 = sym none ∙ w.1 in absurd (cc e))
      | inr un ↦ (entry, here, un)
    ]

-- the next word, as it is written, and as it is handed down
pub next_named : (n : PlacedNode) → AreLabelled n → (p : ℕ) (entry : PlaceEntry) (word next : Bits) (w : Assignment) → at_one n.places p ≡ Some entry → entry.word ≡ Some word → next ≡ word →
    IsStored next → IsNextWord n p w next
next_named n labels p entry word next w here e f stored = record {
  named = λ x v at g.
      let same : x ≡ entry = same_Some x entry (sym at ∙ here) in
      let one_word : word ≡ v = same_Some word v (sym e ∙ ap (λ (y : PlaceEntry). y.word) (sym same) ∙ g) in
      subst (λ b. Same next b) (f ∙ one_word) (λ i h. refl);
  passed = λ q k un reads. absurd (unnamed_named n p un (labels p entry word here e));
  stored = stored;
}

pub next_handed : (n : PlacedNode) → AreLabelled n → (p : ℕ) (next : Bits) (w : Assignment) → IsUnnamed n p →
    ((q k : ℕ) (reads : Reads n q k p) → Hands reads.entry.kind k (w q) next) → IsStored next → IsNextWord n p w next
next_handed n labels p next w un hands stored = record {
  named = λ x v at g. absurd (unnamed_named n p un (labels p x v at g));
  passed = λ q k u reads. hands q k reads;
  stored = stored;
}
