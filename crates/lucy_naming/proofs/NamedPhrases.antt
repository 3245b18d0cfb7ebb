-- Where the operands and arguments of an expression have names and its calls their words, no span keeps it from being written.
use Rattle.std.proofs.Common.{◌≡◌, ℕ, List, [], length, Some, None, slice_index_or, refl, ap, ◌∙◌, subst}
use Rattle.lucy_place.specs.declared.entry.PlaceEntry.{PlaceEntry}
use Rattle.lucy_place.specs.declared.entry.PlaceKind.{PlaceKind}
use Rattle.lucy_place.specs.declared.entry.PlaceKind.TheVariants as kind
use Rattle.lucy_place.specs.declared.placed.PlacedNode.{PlacedNode}
use Rattle.lucy_naming.specs.Phrases.{Head, Literal, Applied, Host, Sampled, Merged, Followed, Buffered, Called, Phrase, Phrases, name, headed, none, and, count}
use Rattle.lucy_naming.specs.Faults.{Within}
use Rattle.lucy_naming.specs.Written.{unnamed_spans, own_spans, phrase_spans, phrases_spans}
use Rattle.lucy_naming.specs.Numbering.{Next, past, inside, numbers, entries, all_entries, own_entries}
use Rattle.lucy_naming.specs.Places.{Known, unnamed}
use Rattle.lucy_place.specs.Standing.{sampling_word}
use Rattle.lucy_place.specs.Proper.{at_one, IsNamed, AreNamed}
use Rattle.lucy_place.specs.WrittenNodes.{IsWritten}
use Rattle.lucy_naming.proofs.EachLaws.{Each, each_front}
use Rattle.lucy_naming.proofs.Spread.{Call}
use Rattle.lucy_naming.proofs.CallLaws.{made, all_made, own_made, reaches_own, reaches_phrase}
use Rattle.lucy_naming.proofs.ShapeLaws.{Takes, HasShape, HaveShape, count_numbers}
use Rattle.lucy_naming.proofs.Good.{known_of, Lies, Setting}
use Rattle.lucy_naming.proofs.OwnPlaces.{site_at}
use Rattle.lucy_naming.proofs.ProperPhrases.{lies_front, lies_back}
use Rattle.lucy_naming.proofs.WrittenPhrases.{no_spans, none_lacking, only_named}

-- a form has no name
not_named : (n : PlacedNode) (p : ℕ) (what : PlaceKind) → at_one n.places p ≡ Some (unnamed what) → IsNamed n p → ⊥
not_named n p what h named =
    let same : unnamed what ≡ named.0 = cc (h, named.2) in
    let e : None ≡ Some named.1 = ap (λ x. x.name) same ∙ named.3 in
    cc

module _ (n : PlacedNode) where
  abbrev Standing : ℕ → PlaceEntry → Type 0
  Standing p e = at_one n.places p ≡ Some e

  own_unnamed : (k : Known) (at : Next) (h : Head) (args : List ℕ) → Each Standing at.place (own_entries k at 1 h args) → IsNamed n at.place → ⊥
  own_unnamed k at (Literal l) args s named = not_named n at.place _ s.0 named
  own_unnamed k at (Applied o) args s named = not_named n at.place _ s.0 named
  own_unnamed k at (Host f) args s named = not_named n at.place _ s.0 named
  own_unnamed k at (Sampled flip p) args s named = not_named n at.place _ s.0 named
  own_unnamed k at (Merged p) args s named = not_named n at.place _ s.0 named
  own_unnamed k at (Followed l) args s named = not_named n at.place _ s.0 named
  own_unnamed k at (Buffered most) args s named = not_named n at.place _ s.0 named
  own_unnamed k at (Called f base) args s named = not_named n at.place _ s.0 named

module _ (w : Within) (above : List PlacedNode) (n : PlacedNode) (cs : List Call) (set : Setting w above n cs) (is : IsWritten n) where
  abbrev k : Known
  k = known_of w

  -- where all operands have names
  names_only : (at : Next) (fs : Phrases) → Lies n cs at (all_entries k at fs) (all_made k at fs) → AreNamed n (numbers k at fs) → unnamed_spans fs ≡ []
  names_only at none lies named = refl
  names_only at (and (name t) fs) lies named =
      let next : Next = past at 1 (name t) in
      names_only next fs (lies_back n cs at next [] (all_entries k next fs) [] (all_made k next fs) (reaches_phrase k at 1 (name t)) lies) named.1
  names_only at (and (headed h span gs) fs) lies named =
      let next : Next = past at 1 (headed h span gs) in
      let in_ : Next = inside at 1 h in
      let first = lies_front n cs at next (entries k at 1 (headed h span gs)) (all_entries k next fs) (made k at 1 (headed h span gs)) (all_made k next fs) (reaches_phrase k at 1 (headed h span gs)) lies in
      absurd (own_unnamed n k at h (numbers k in_ gs)
      (each_front (λ p e. at_one n.places p ≡ Some e) at.place (own_entries k at 1 h (numbers k in_ gs)) (all_entries k in_ gs) first.places) named.0)

  own_none : (at : Next) (r : ℕ) (h : Head) (args : List ℕ) (fs : Phrases) → Takes h (length args) → (AreNamed n args → unnamed_spans fs ≡ []) →
      Lies n cs at (own_entries k at r h args) (own_made k at r h args) → own_spans h fs ≡ []
  own_none at r (Literal l) args fs takes unnamed lies = refl
  own_none at r (Applied o) args fs takes unnamed lies = refl
  own_none at r (Host f) args fs takes unnamed lies = refl
  own_none at r (Sampled flip p) args fs takes unnamed_ lies =
      unnamed_ (only_named n args takes.0 (is.sampled at.place (slice_index_or args 0 0) (sampling_word flip p) (unnamed (kind.When (slice_index_or args 0 0) (sampling_word flip p)), lies.places.0, refl)))
  own_none at r (Merged p) args fs takes unnamed lies = refl
  own_none at r (Followed l) args fs takes unnamed lies = refl
  own_none at r (Buffered most) args fs takes unnamed_ lies =
      unnamed_ (only_named n args takes.0 (is.buffered at.place at.buffer (slice_index_or args 0 0) (unnamed (kind.Buffer at.buffer (slice_index_or args 0 0)), lies.places.0, refl)))
  own_none at r (Called f base) args fs takes unnamed_ lies =
      let g = ap (λ l. at_one l at.call) set.calls ∙ site_at cs at.call _ lies.calls.0 in
      let word = is.bases at.call _ g in
      no_spans (none_lacking base f.span word.0 word.1) (unnamed_ (is.arguments at.call _ g))

  mutual
    pub phrase_none : (at : Next) (r : ℕ) (f : Phrase) → HasShape f → Lies n cs at (entries k at r f) (made k at r f) → phrase_spans f ≡ []
    phrase_none at r (name t) shape lies = refl
    phrase_none at r (headed h span fs) shape lies =
        let in_ : Next = inside at r h in
        let args : List ℕ = numbers k in_ fs in
        let same : count fs ≡ length args = count_numbers k in_ fs in
        let front = lies_front n cs at in_ (own_entries k at r h args) (all_entries k in_ fs) (own_made k at r h args) (all_made k in_ fs) (reaches_own k at r h args) lies in
        let back = lies_back n cs at in_ (own_entries k at r h args) (all_entries k in_ fs) (own_made k at r h args) (all_made k in_ fs) (reaches_own k at r h args) lies in
        no_spans (own_none at r h args fs (subst (Takes h) same shape.0) (names_only in_ fs back) front) (all_none in_ fs shape.1 back)

    all_none : (at : Next) (fs : Phrases) → HaveShape fs → Lies n cs at (all_entries k at fs) (all_made k at fs) → phrases_spans fs ≡ []
    all_none at none shape lies = refl
    all_none at (and f fs) shape lies =
        let next : Next = past at 1 f in
        no_spans
        (phrase_none at 1 f shape.0 (lies_front n cs at next (entries k at 1 f) (all_entries k next fs) (made k at 1 f) (all_made k next fs) (reaches_phrase k at 1 f) lies))
        (all_none next fs shape.1 (lies_back n cs at next (entries k at 1 f) (all_entries k next fs) (made k at 1 f) (all_made k next fs) (reaches_phrase k at 1 f) lies))
