-- A written node has at most one assignment that keeps its clock rules: that of the words that it hands down.
use Rattle.std.proofs.Common.{ℕ, zero, suc, ◌-◌, ◌<◌, ◌≤◌, ◌≡◌, List, [], ◌∷◌, length, Option, Some, None, ap, sym, refl, ◌∙◌, subst, inl, inr, arith}
use Rattle.std.specs.Prelude.{slice_get, ◌⊎◌}
use Rattle.std.specs.List.{AllByRecursion}
use Rattle.std.proofs.lemmas.Bool.{cases_lt}
use Rattle.std.proofs.lemmas.Option.{same_Some}
use Rattle.lucy_word.specs.Bits.{Bits}
use Rattle.lucy_word.specs.Shortest.{Same}
use Rattle.lucy_word.specs.Sampling.{IsOn, IsOnNot}
use Rattle.lucy_word.proofs.ShortLaws.{same_sym, same_trans}
use Rattle.lucy_tree.specs.declared.span.Name.{Name}
use Rattle.lucy_place.specs.declared.entry.PlaceEntry.{PlaceEntry}
use Rattle.lucy_place.specs.declared.entry.PlaceKind.{PlaceKind}
use Rattle.lucy_place.specs.declared.entry.PlaceKind.TheVariants.{Param, Defined, Lit, Op, Host, When, Merge, Fby, Buffer, Result}
use Rattle.lucy_place.specs.declared.entry.CallSite.{CallSite}
use Rattle.lucy_place.specs.declared.placed.PlacedNode.{PlacedNode}
use Rattle.lucy_place.specs.Proper.{at_one, Stands, IsNamed, AreNamed, arguments_of, reads_of, IsUnnamed, AreReadOnce}
use Rattle.lucy_place.specs.WrittenNodes.{IsWritten}
use Rattle.lucy_need.specs.Meeting.{Assignment, Agree}
use Rattle.lucy_word.proofs.OnLaws.{on_same, on_not_same, same_self}
use Rattle.lucy_word.specs.Always.{always}
use Rattle.lucy_word.proofs.Lists.{only_one}
use Rattle.lucy_clock.specs.declared.signature.Signature.{Signature}
use Rattle.lucy_clock.specs.Clocks.{call_clock, clocks_of}
use Rattle.lucy_clock.specs.WellClocked.{KeepsRule, IsWellClocked}
use Rattle.lucy_clock.specs.HandedDown.{Hands, AreHandedDown, AreHandedWords}

-- what a place hands down is one word
pub hands_one : (kind : PlaceKind) (k : ℕ) (a b u v : Bits) → Same a b → Hands kind k a u → Hands kind k b v → Same u v
hands_one (Merge p x y) zero a b u v same f g i h = f i h ∙ on_same a b p p i same (same_self p) h ∙ sym (g i h)
hands_one (Merge p x y) (suc k) a b u v same f g i h = f i h ∙ on_not_same a b p i same h ∙ sym (g i h)
hands_one kind k a b u v same f g i h = f i h ∙ same i h ∙ sym (g i h)

-- an operand of an operator
arg_same : (w : Assignment) (p : ℕ) (args : List ℕ) (k q : ℕ) → AllByRecursion (λ arg. Same (w p) (w arg)) args → slice_get args k ≡ Some q → Same (w q) (w p)
arg_same w p [] k q all e = absurd (cc)
arg_same w p (a ∷ args) zero q all e = subst (λ x. Same (w x) (w p)) (same_Some a q e) (same_sym (w p) (w a) all.0)
arg_same w p (a ∷ args) (suc k) q all e = arg_same w p args k q all.1 e

-- one number can't be a place with a name and one without
pub unnamed_named : (n : PlacedNode) (q : ℕ) → IsUnnamed n q → IsNamed n q → ⊥
unnamed_named n q u v =
    let same : u.0 ≡ v.0 = same_Some u.0 v.0 (sym u.1 ∙ v.2) in
    let e : Some v.1 ≡ None = sym v.3 ∙ ap (λ (x : PlaceEntry). x.name) (sym same) ∙ u.2 in
    cc e

pub all_named : (n : PlacedNode) (ps : List ℕ) (k q : ℕ) → AreNamed n ps → slice_get ps k ≡ Some q → IsNamed n q
all_named n [] k q all e = absurd (cc)
all_named n (p ∷ ps) zero q all e = subst (IsNamed n) (same_Some p q e) all.0
all_named n (p ∷ ps) (suc k) q all e = all_named n ps k q all.1 e

-- what stands in the list of calls
module _ (above : List Signature) (n : PlacedNode) (is_written : IsWritten n) (v : Assignment) (well : IsWellClocked above n v) where
  call_args_named : (call k q : ℕ) (o : Option CallSite) → at_one n.calls call ≡ o → slice_get (arguments_of o) k ≡ Some q → IsNamed n q
  call_args_named call k q None at e = absurd (cc)
  call_args_named call k q (Some site) at e = all_named n site.args k q (is_written.arguments call site at) e

  -- where the rules hold, each place without a name has the word that its reader hands down
  kind_hands : (p k q : ℕ) (kind : PlaceKind) → Stands n p kind → KeepsRule v p kind → IsUnnamed n q → slice_get (reads_of n kind) k ≡ Some q → Hands kind k (v p) (v q)
  kind_hands p k q Param stands keeps un e = absurd (cc)
  kind_hands p k q (Defined x) stands keeps un e = subst (λ y. Same (v y) (v p)) (only_one x k q e) (same_sym (v p) (v x) keeps)
  kind_hands p k q (Lit l) stands keeps un e = absurd (cc)
  kind_hands p k q (Op op args) stands keeps un e = arg_same v p args k q keeps e
  kind_hands p zero q (Host op a b) stands keeps un e = subst (λ y. Same (v y) (v p)) (same_Some a q e) (same_sym (v p) (v a) keeps.0)
  kind_hands p (suc k) q (Host op a b) stands keeps un e = subst (λ y. Same (v y) (v p)) (only_one b k q e) (same_sym (v p) (v b) keeps.1)
  kind_hands p k q (When x word) stands keeps un e = absurd (unnamed_named n q un (subst (IsNamed n) (only_one x k q e) (is_written.sampled p x word stands)))
  kind_hands p zero q (Merge word a b) stands keeps un e = subst (λ y. IsOn (v p) word (v y)) (same_Some a q e) keeps.0
  kind_hands p (suc k) q (Merge word a b) stands keeps un e = subst (λ y. IsOnNot (v p) word (v y)) (only_one b k q e) keeps.1
  kind_hands p k q (Fby l x) stands keeps un e = subst (λ y. Same (v y) (v p)) (only_one x k q e) (same_sym (v p) (v x) keeps)
  kind_hands p k q (Buffer number x) stands keeps un e = absurd (unnamed_named n q un (subst (IsNamed n) (only_one x k q e) (is_written.buffered p number x stands)))
  kind_hands p k q (Result call zero) stands keeps un e = absurd (unnamed_named n q un (call_args_named call k q (at_one n.calls call) refl e))
  kind_hands p k q (Result call (suc j)) stands keeps un e = absurd (cc)

  -- so the words are those that are handed down
  pub well_handed : AreHandedWords n v
  well_handed = record {
    places = record {
      base = well.base;
      named = λ p entry word l e f. well.written p entry word e f;
      passed = λ p k q l un reads. kind_hands p k q reads.entry.kind (reads.entry, reads.stands, refl) (well.forms p reads.entry reads.stands) un reads.reads;
    };
    bases = λ call site word at e. (well.calls call site at).at word e;
  }

-- a place has a name or none
pub named_or : (entry : PlaceEntry) → ((name : Name) × (entry.name ≡ Some name)) ⊎ (entry.name ≡ None)
named_or entry = elim entry.name as (λ o. ((name : Name) × (o ≡ Some name)) ⊎ (o ≡ None)) [ Some name ↦ inl (name, refl) | None ↦ inr refl ]

-- words that are handed down are one for each place
module _ (n : PlacedNode) (is_written : IsWritten n) (once : AreReadOnce n) where
  place_one : (upto : ℕ) (v w : Assignment) → AreHandedDown n upto v → AreHandedDown n upto w → (p : ℕ) (entry : PlaceEntry) → p ≤ upto → at_one n.places p ≡ Some entry →
      ((q : ℕ) (e : PlaceEntry) → q < p → at_one n.places q ≡ Some e → Same (v q) (w q)) → Same (v p) (w p)
  place_one upto v w hand_v hand_w p entry l here below =
      elim (named_or entry) [
        | inl named ↦
            let word = is_written.words p entry named.0 here named.1 in
            same_trans (v p) word.0 (w p) (hand_v.named p entry word.0 l here word.1) (same_sym (w p) word.0 (hand_w.named p entry word.0 l here word.1))
        | inr none ↦
            let un : IsUnnamed n p = (entry, here, none) in
            let read = once p un in
            let before : Same (v read.reader) (w read.reader) = below read.reader read.reads.entry read.before read.reads.stands in
            hands_one read.reads.entry.kind read.operand (v read.reader) (w read.reader) (v p) (w p) before
            (hand_v.passed read.reader read.operand p l un read.reads) (hand_w.passed read.reader read.operand p l un read.reads)
      ]

  below_one : (upto bound : ℕ) (v w : Assignment) → AreHandedDown n upto v → AreHandedDown n upto w →
      (p : ℕ) (entry : PlaceEntry) → p < bound → p ≤ upto → at_one n.places p ≡ Some entry → Same (v p) (w p)
  below_one upto zero v w hand_v hand_w p entry b l here = absurd (omega arith)
  below_one upto (suc bound) v w hand_v hand_w p entry b l here =
      place_one upto v w hand_v hand_w p entry l here (λ q e m f. below_one upto bound v w hand_v hand_w q e (omega arith) (omega arith) f)

  pub handed_one : (upto : ℕ) (v w : Assignment) → AreHandedDown n upto v → AreHandedDown n upto w → (p : ℕ) (entry : PlaceEntry) → p ≤ upto → at_one n.places p ≡ Some entry → Same (v p) (w p)
  handed_one upto v w hand_v hand_w p entry l here = below_one upto (suc p) v w hand_v hand_w p entry (omega arith) l here

  pub words_agree : (v w : Assignment) → AreHandedWords n v → AreHandedWords n w → Agree v w (clocks_of n)
  words_agree v w hand_v hand_w zero l = same_trans (v 0) always (w 0) hand_v.places.base (same_sym (w 0) always hand_w.places.base)
  words_agree v w hand_v hand_w (suc c) l =
      elim (cases_lt c (length n.places)) [
        | inl place ↦
            let at = place_at c place in
            handed_one (length n.places) v w hand_v.places hand_w.places (suc c) at.0 (omega arith) at.1
        | inr call ↦
            let number : ℕ = c - length n.places in
            let at = call_at number (omega arith) in
            let word = is_written.bases (suc number) at.0 at.1 in
            let e : call_clock n (suc number) ≡ suc c = omega arith in
            subst (λ k. Same (v k) (w k)) e
            (same_trans (v (call_clock n (suc number))) word.0 (w (call_clock n (suc number))) (hand_v.bases (suc number) at.0 word.0 at.1 word.1)
            (same_sym (w (call_clock n (suc number))) word.0 (hand_w.bases (suc number) at.0 word.0 at.1 word.1)))
      ]
    where
      found : {A : Type 0} (xs : List A) (i : ℕ) → i < length xs → (x : A) × (slice_get xs i ≡ Some x)
      found [] i h = absurd (omega arith)
      found (x ∷ xs) zero h = (x, refl)
      found (x ∷ xs) (suc i) h = found xs i (omega (arith, h))

      place_at : (i : ℕ) → i < length n.places → (entry : PlaceEntry) × (slice_get n.places i ≡ Some entry)
      place_at i h = found n.places i h

      call_at : (i : ℕ) → i < length n.calls → (site : CallSite) × (slice_get n.calls i ≡ Some site)
      call_at i h = found n.calls i h
