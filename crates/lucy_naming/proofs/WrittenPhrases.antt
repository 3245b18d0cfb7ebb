-- Where no span keeps an expression from being written, its operands and arguments have names and its calls their words.
use Rattle.std.proofs.Common.{◌≡◌, ◌+◌, ℕ, zero, suc, List, [], ◌∷◌, ◌++◌, length, Option, Some, None, true, slice_index_or, refl, ap, ◌∙◌, subst, arith}
use Rattle.lucy_word.specs.Bits.{Bits}
use Rattle.lucy_word.proofs.Lists.{front_empty, back_empty}
use Rattle.lucy_tree.specs.declared.span.Span.{Span}
use Rattle.lucy_tree.specs.declared.span.Name.{Name}
use Rattle.lucy_place.specs.declared.entry.PlaceEntry.{PlaceEntry}
use Rattle.lucy_place.specs.declared.entry.PlaceKind.{PlaceKind}
use Rattle.lucy_place.specs.declared.entry.PlaceKind.TheVariants as kind
use Rattle.lucy_place.specs.declared.placed.PlacedNode.{PlacedNode}
use Rattle.lucy_naming.specs.Texts.{is_in}
use Rattle.lucy_naming.specs.Phrases.{Head, Literal, Applied, Host, Sampled, Merged, Followed, Buffered, Called, Phrase, Phrases, name, headed, none, and, count}
use Rattle.lucy_naming.specs.Faults.{Within, head_faults, phrase_faults, phrases_faults}
use Rattle.lucy_naming.specs.Written.{lacking, unnamed_spans, own_spans, phrase_spans, phrases_spans}
use Rattle.lucy_naming.specs.Numbering.{Next, past, inside, numbers, entries, all_entries, own_entries}
use Rattle.lucy_naming.specs.Places.{Known, results_from, stream_place}
use Rattle.lucy_place.specs.Proper.{IsNamed, AreNamed}
use Rattle.lucy_naming.proofs.EachLaws.{Each}
use Rattle.lucy_naming.proofs.Spread.{Call, Spread, Reaches, spread_join}
use Rattle.lucy_naming.proofs.CallLaws.{made, all_made, own_made, reaches_own, reaches_phrase}
use Rattle.lucy_naming.proofs.ShapeLaws.{Takes, HasShape, HaveShape, count_numbers}
use Rattle.lucy_naming.proofs.Good.{known_of}
use Rattle.lucy_naming.proofs.OwnPlaces.{unless_holds}

-- no spans of the one, none of the other
pub no_spans : {xs ys : List Span} → xs ≡ [] → ys ≡ [] → xs ++ ys ≡ []
no_spans {ys = ys} a b = ap (λ l. l ++ ys) a ∙ b

-- a word that isn't lacking is there
pub has_word : (word : Option Bits) (span : Span) → lacking word span ≡ [] → (w : Bits) × (word ≡ Some w)
has_word None span h = cc
has_word (Some w) span h = (w, refl)

pub none_lacking : (word : Option Bits) (span : Span) (w : Bits) → word ≡ Some w → lacking word span ≡ []
none_lacking word span w e = ap (λ o. lacking o span) e

-- one operand
first_named : (n : PlacedNode) (args : List ℕ) → length args ≡ 1 → AreNamed n args → IsNamed n (slice_index_or args 0 0)
first_named n [] h p = absurd (omega arith)
first_named n (a ∷ args) h p = p.0

pub only_named : (n : PlacedNode) (args : List ℕ) → length args ≡ 1 → IsNamed n (slice_index_or args 0 0) → AreNamed n args
only_named n [] h p = tt
only_named n (a ∷ []) h p = (p, tt)
only_named n (a ∷ b ∷ args) h p = absurd (omega arith)

-- the operand that is to have a name has one
abbrev pub IsOperandNamed : PlacedNode → PlaceKind → Type 0
IsOperandNamed n (kind.When e word) = IsNamed n e
IsOperandNamed n (kind.Buffer b e) = IsNamed n e
IsOperandNamed n _ = Unit {0}

pub record WrittenPlace (n : PlacedNode) (p : ℕ) (e : PlaceEntry) : Type 0 where
  pub word : (name : Name) → e.name ≡ Some name → (w : Bits) × (e.word ≡ Some w)
  pub operand : IsOperandNamed n e.kind

abbrev pub AnyBuffer : ℕ → ℕ → Type 0
AnyBuffer b p = Unit {0}

pub any_buffers : (from : ℕ) (ps : List ℕ) → Each AnyBuffer from ps
any_buffers from [] = tt
any_buffers from (p ∷ ps) = (tt, any_buffers (from + 1) ps)

pub record WrittenCall (n : PlacedNode) (c : ℕ) (x : Call) : Type 0 where
  pub base : (w : Bits) × (x.site.at ≡ Some w)
  pub arguments : AreNamed n x.site.args

abbrev pub AllWritten : PlacedNode → Next → List PlaceEntry → List Call → Type 0
AllWritten n at es cs = Spread (WrittenPlace n) AnyBuffer (WrittenCall n) at es cs

pub written_join : (n : PlacedNode) (at to : Next) (es fs : List PlaceEntry) (xs ys : List Call) → Reaches at to es xs → AllWritten n at es xs → AllWritten n to fs ys → AllWritten n at (es ++ fs) (xs ++ ys)
written_join n = spread_join (WrittenPlace n) AnyBuffer (WrittenCall n)

results_written : (n : PlacedNode) (from c first m : ℕ) → Each (WrittenPlace n) from (results_from c first m)
results_written n from c first zero = tt
results_written n from c first (suc m) = (record { word = λ name g. cc; operand = tt }, results_written n (from + 1) c (first + 1) m)

module _ (w : Within) (n : PlacedNode) (known : (t : List ℕ) → is_in w.streams t ≡ true → IsNamed n (stream_place (known_of w) t)) where
  abbrev k : Known
  k = known_of w

  -- where no operand is to have a name and hasn't
  names_written : (at : Next) (fs : Phrases) → phrases_faults w fs ≡ [] → unnamed_spans fs ≡ [] → AreNamed n (numbers k at fs)
  names_written at none good h = tt
  names_written at (and (name t) fs) good h =
      (known t.text (unless_holds _ _ (front_empty (phrase_faults w 1 (name t)) (phrases_faults w fs) good)), names_written (past at 1 (name t)) fs (back_empty (phrase_faults w 1 (name t)) (phrases_faults w fs) good) h)
  names_written at (and (headed h0 span gs) fs) good h = cc

  own_written : (at : Next) (r : ℕ) (h : Head) (args : List ℕ) (fs : Phrases) → Takes h (length args) → (unnamed_spans fs ≡ [] → AreNamed n args) → own_spans h fs ≡ [] →
      AllWritten n at (own_entries k at r h args) (own_made k at r h args)
  own_written at r (Literal l) args fs takes named h = record { places = (record { word = λ name g. cc; operand = tt }, tt); buffers = tt; calls = tt }
  own_written at r (Applied o) args fs takes named h = record { places = (record { word = λ name g. cc; operand = tt }, tt); buffers = tt; calls = tt }
  own_written at r (Host f) args fs takes named h = record { places = (record { word = λ name g. cc; operand = tt }, tt); buffers = tt; calls = tt }
  own_written at r (Sampled flip p) args fs takes named h = record { places = (record { word = λ name g. cc; operand = first_named n args takes.0 (named h) }, tt); buffers = tt; calls = tt }
  own_written at r (Merged p) args fs takes named h = record { places = (record { word = λ name g. cc; operand = tt }, tt); buffers = tt; calls = tt }
  own_written at r (Followed l) args fs takes named h = record { places = (record { word = λ name g. cc; operand = tt }, tt); buffers = tt; calls = tt }
  own_written at r (Buffered most) args fs takes named h = record { places = (record { word = λ name g. cc; operand = first_named n args takes.0 (named h) }, tt); buffers = (tt, tt); calls = tt }
  own_written at r (Called f base) args fs takes named h = record {
    places = results_written n at.place at.call 0 r;
    buffers = any_buffers at.buffer _;
    calls = (record { base = has_word base f.span (front_empty (lacking base f.span) (unnamed_spans fs) h); arguments = named (back_empty (lacking base f.span) (unnamed_spans fs) h) }, tt);
  }

  mutual
    pub phrase_written : (at : Next) (r : ℕ) (f : Phrase) → HasShape f → phrase_faults w r f ≡ [] → phrase_spans f ≡ [] → AllWritten n at (entries k at r f) (made k at r f)
    phrase_written at r (name t) shape good spans = record { places = tt; buffers = tt; calls = tt }
    phrase_written at r (headed h span fs) shape good spans =
        let in_ : Next = inside at r h in
        let args : List ℕ = numbers k in_ fs in
        let same : count fs ≡ length args = count_numbers k in_ fs in
        let rest_good = back_empty (head_faults w r (count fs) h) (phrases_faults w fs) good in
        written_join n at in_ (own_entries k at r h args) (all_entries k in_ fs) (own_made k at r h args) (all_made k in_ fs) (reaches_own k at r h args)
        (own_written at r h args fs (subst (Takes h) same shape.0) (names_written in_ fs rest_good) (front_empty (own_spans h fs) (phrases_spans fs) spans))
        (all_written in_ fs shape.1 rest_good (back_empty (own_spans h fs) (phrases_spans fs) spans))

    all_written : (at : Next) (fs : Phrases) → HaveShape fs → phrases_faults w fs ≡ [] → phrases_spans fs ≡ [] → AllWritten n at (all_entries k at fs) (all_made k at fs)
    all_written at none shape good spans = record { places = tt; buffers = tt; calls = tt }
    all_written at (and f fs) shape good spans =
        let next : Next = past at 1 f in
        written_join n at next (entries k at 1 f) (all_entries k next fs) (made k at 1 f) (all_made k next fs) (reaches_phrase k at 1 f)
        (phrase_written at 1 f shape.0 (front_empty (phrase_faults w 1 f) (phrases_faults w fs) good) (front_empty (phrase_spans f) (phrases_spans fs) spans))
        (all_written next fs shape.1 (back_empty (phrase_faults w 1 f) (phrases_faults w fs) good) (back_empty (phrase_spans f) (phrases_spans fs) spans))
