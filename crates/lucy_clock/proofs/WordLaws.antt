-- Words that are handed down place after place.
use Rattle.std.proofs.Common.{ℕ, zero, suc, ◌+◌, ◌≤◌, ◌≡◌, List, [], ◌∷◌, ◌++◌, Some, length, ap, sym, ◌∙◌, subst, inl, inr, arith}
use Rattle.std.proofs.lemmas.Bool.{cases_lt}
use Rattle.std.proofs.lemmas.List.{get_or_append_left, get_or_push, length_push}
use Rattle.std.proofs.lemmas.Option.{slice_get_within}
use Rattle.lucy_word.specs.Bits.{Bits}
use Rattle.lucy_word.specs.Shortest.{Same}
use Rattle.lucy_word.specs.Stored.{IsStored}
use Rattle.lucy_word.specs.Always.{always}
use Rattle.std.specs.List.{AllByRecursion}
use Rattle.lucy_word.proofs.ShortLaws.{shortest_one}
use Rattle.lucy_place.specs.declared.entry.PlaceEntry.{PlaceEntry}
use Rattle.lucy_place.specs.declared.placed.PlacedNode.{PlacedNode}
use Rattle.lucy_place.specs.Proper.{at_one, Reads, IsUnnamed, AreReadOnce}
use Rattle.lucy_place.specs.WrittenNodes.{IsWritten}
use Rattle.lucy_need.specs.Meeting.{Assignment, assigned}
use Rattle.lucy_word.proofs.OnLaws.{always_stored}
use Rattle.lucy_word.proofs.Lists.{all_join}
use Rattle.lucy_clock.specs.HandedDown.{Hands, HandsTooLong, AreHandedDown, IsWordTooLong}
use Rattle.lucy_clock.specs.Reading.{AreHandedSoFar, IsNextWord, NextHandsTooLong, IsTooLongBefore}
use Rattle.lucy_clock.proofs.HandLaws.{handed_one}

-- the word of a clock, of words in shortest form
pub stored_at : (words : List Bits) (c : ℕ) → AllByRecursion IsStored words → IsStored (assigned words c)
stored_at [] c all = always_stored
stored_at (w ∷ words) zero all = all.0
stored_at (w ∷ words) (suc c) all = stored_at words c all.1

-- one word more
module _ (n : PlacedNode) (once : AreReadOnce n) (i : ℕ) (words more : List Bits) (next : Bits) (far : AreHandedSoFar n i words) (is : IsNextWord n (i + 1) (assigned words) next) (e : more ≡ words ++ next ∷ []) where
  old : (p : ℕ) → p ≤ i → assigned words p ≡ assigned more p
  old p l = let c = far.count in sym (ap (λ ws. assigned ws p) e ∙ get_or_append_left words (next ∷ []) always p (omega arith))

  new : next ≡ assigned more (i + 1)
  new = let c = far.count in sym (ap (λ ws. assigned ws (i + 1)) e ∙ get_or_push words next always (i + 1) (omega arith))

  reader_before : (p k q : ℕ) → q ≤ i + 1 → IsUnnamed n q → Reads n p k q → p ≤ i
  reader_before p k q l un reads =
      let one = once q un in
      let same : p ≡ one.reader = (one.only p k reads).0 in
      let before = one.before in
      omega arith

  -- of the last place, or of one before it
  at_either : (P : ℕ → Bits → Type 0) → ((p : ℕ) → p ≤ i → P p (assigned words p)) → P (i + 1) next → (p : ℕ) → p ≤ i + 1 → P p (assigned more p)
  at_either P before here p l =
      elim (cases_lt i p) [
        | inl last ↦ (let s : i + 1 ≡ p = omega arith in subst (λ q. P q (assigned more q)) s (subst (P (i + 1)) new here))
        | inr first ↦ subst (P p) (old p first) (before p first)
      ]

  handed_push : AreHandedDown n (i + 1) (assigned more)
  handed_push = record {
    base = subst (λ b. Same b always) (old 0 (omega arith)) far.handed.base;
    named = λ p entry word l here f.
        at_either (λ q w. at_one n.places q ≡ Some entry → Same w word) (λ q m g. far.handed.named q entry word m g f) (λ g. is.named entry word g f) p l here;
    passed = λ p k q l un reads.
        let before : p ≤ i = reader_before p k q l un reads in
        subst (λ own. Hands reads.entry.kind k own (assigned more q)) (old p before)
        (at_either (λ r w. IsUnnamed n r → (rs : Reads n p k r) → Hands rs.entry.kind k (assigned words p) w) (λ r m u rs. far.handed.passed p k r m u rs) (λ u rs. is.passed p k u rs) q l un reads);
  }

  stored_push : AllByRecursion IsStored more
  stored_push = subst (AllByRecursion IsStored) (sym e) (all_join IsStored words (next ∷ []) far.stored (is.stored, tt))

  pub so_far_push : (NextHandsTooLong n (i + 1) next → ⊥) → AreHandedSoFar n (i + 1) more
  so_far_push fits = record {
    count = (let c = far.count in let l = length_push words next in let m : length more ≡ length (words ++ next ∷ []) = ap length e in omega arith);
    handed = handed_push;
    stored = stored_push;
    fits = λ p entry l here.
        at_either (λ q w. at_one n.places q ≡ Some entry → HandsTooLong entry.kind w → ⊥) (λ q m g. far.fits q entry m g) (λ g long. fits (entry, g, long)) p l here;
  }

  -- what the last place hands down is too long
  pub last_long : NextHandsTooLong n (i + 1) next → IsWordTooLong n
  last_long long = record {
    words = assigned more;
    place = i + 1;
    entry = long.0;
    stands = long.1;
    handed = handed_push;
    stored = λ p l. stored_at more p stored_push;
    too_long = subst (HandsTooLong long.0.kind) new long.2;
  }

-- fewer places
handed_less : (n : PlacedNode) (i k : ℕ) (w : Assignment) → k ≤ i → AreHandedDown n i w → AreHandedDown n k w
handed_less n i k w l h = record {
  base = h.base;
  named = λ p entry word m here f. h.named p entry word (omega (arith, m, l)) here f;
  passed = λ p j q m un reads. h.passed p j q (omega (arith, m, l)) un reads;
}

-- what a place before the next one hands down is too long
pub before_long : (n : PlacedNode) (i : ℕ) (words : List Bits) → AreHandedSoFar n i words → IsTooLongBefore n (i + 1) (assigned words) → IsWordTooLong n
before_long n i words far long =
    let l = long.before in
    record {
      words = assigned words;
      place = long.reader;
      entry = long.hands.0;
      stands = long.hands.1;
      handed = handed_less n i long.reader (assigned words) (omega arith) far.handed;
      stored = λ p m. stored_at words p far.stored;
      too_long = long.hands.2;
    }

-- where none of the words that are handed down is too long, there is none
pub none_long : (n : PlacedNode) → IsWritten n → AreReadOnce n → (words : List Bits) → AreHandedSoFar n (length n.places) words → IsWordTooLong n → ⊥
none_long n is_written once words far long =
    let p : ℕ = long.place in
    let within : p ≤ length n.places = at_most p long.entry long.stands in
    let mine = long.stored p (omega arith) in
    let theirs = stored_at words p far.stored in
    let bits : Same (long.words p) (assigned words p) =
    handed_one n is_written once p long.words (assigned words) long.handed (handed_less n (length n.places) p (assigned words) within far.handed) p long.entry (omega arith) long.stands in
    let equal : long.words p ≡ assigned words p = shortest_one (long.words p) (assigned words p) mine.shortest theirs.shortest mine.nonempty theirs.nonempty bits in
    far.fits p long.entry within long.stands (subst (HandsTooLong long.entry.kind) equal long.too_long)
  where
    at_most : (p : ℕ) (entry : PlaceEntry) → at_one n.places p ≡ Some entry → p ≤ length n.places
    at_most zero entry e = absurd (cc e)
    at_most (suc i) entry e = let l = slice_get_within n.places i entry e in omega arith
