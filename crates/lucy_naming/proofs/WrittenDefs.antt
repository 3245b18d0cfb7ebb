-- No span keeps definitions from being written exactly where they are written.
use Rattle.std.proofs.Common.{◌≡◌, ◌+◌, ℕ, true, List, [], ◌∷◌, length, map, Some, refl, arith}
use Rattle.std.specs.List.{AllByRecursion, flat_map}
use Rattle.lucy_word.proofs.Lists.{front_empty, back_empty}
use Rattle.lucy_tree.specs.declared.decl.Decl.{Decl}
use Rattle.lucy_tree.specs.View.{DefTree}
use Rattle.lucy_tree.specs.Shaped.{IsShapedDef}
use Rattle.lucy_place.specs.declared.entry.PlaceEntry.{PlaceEntry}
use Rattle.lucy_place.specs.declared.entry.PlaceKind.TheVariants as kind
use Rattle.lucy_place.specs.declared.placed.PlacedNode.{PlacedNode}
use Rattle.lucy_naming.specs.Texts.{is_in}
use Rattle.lucy_naming.specs.Streams.{result_count}
use Rattle.lucy_naming.specs.Phrases.{Phrase, phrase_of}
use Rattle.lucy_naming.specs.Faults.{Within, def_faults, phrase_faults}
use Rattle.lucy_naming.specs.Written.{lacking, decl_spans, phrase_spans, def_spans}
use Rattle.lucy_naming.specs.Numbering.{Next, number, entries}
use Rattle.lucy_naming.specs.Places.{Known, stream_place, declared_entry, left_entries}
use Rattle.lucy_naming.specs.Nodes.{past_def, defined, rights}
use Rattle.lucy_place.specs.Proper.{at_one, IsNamed}
use Rattle.lucy_place.specs.WrittenNodes.{IsWritten}
use Rattle.lucy_naming.proofs.EachLaws.{Each, each_join, each_front, each_back}
use Rattle.lucy_naming.proofs.Spread.{Call}
use Rattle.lucy_naming.proofs.CallLaws.{made, def_made, reaches_phrase}
use Rattle.lucy_naming.proofs.ShapeLaws.{has_shape}
use Rattle.lucy_naming.proofs.RoomLaws.{length_lefts}
use Rattle.lucy_naming.proofs.Good.{known_of, Lies, Setting}
use Rattle.lucy_naming.proofs.ProperPhrases.{lies_front, lies_back}
use Rattle.lucy_naming.proofs.WrittenPhrases.{no_spans, has_word, none_lacking, WrittenPlace, AllWritten, written_join, phrase_written}
use Rattle.lucy_naming.proofs.NamedPhrases.{phrase_none}

-- declarations that have their words
pub params_written : (n : PlacedNode) (from : ℕ) (ds : List Decl) → decl_spans ds ≡ [] → Each (WrittenPlace n) from (map (declared_entry kind.Param) ds)
params_written n from [] h = tt
params_written n from (d ∷ ds) h = (
  record { word = λ name g. has_word d.word d.name.span (front_empty (lacking d.word d.name.span) (decl_spans ds) h); operand = tt },
  params_written n (from + 1) ds (back_empty (lacking d.word d.name.span) (decl_spans ds) h),
)

lefts_written : (n : PlacedNode) (from right : ℕ) (ds : List Decl) → decl_spans ds ≡ [] → Each (WrittenPlace n) from (left_entries right ds)
lefts_written n from right [] h = tt
lefts_written n from right (d ∷ ds) h = (
  record { word = λ name g. has_word d.word d.name.span (front_empty (lacking d.word d.name.span) (decl_spans ds) h); operand = tt },
  lefts_written n (from + 1) (right + 1) ds (back_empty (lacking d.word d.name.span) (decl_spans ds) h),
)

module _ (n : PlacedNode) (is : IsWritten n) where
  abbrev Standing : ℕ → PlaceEntry → Type 0
  Standing p e = at_one n.places p ≡ Some e

  pub params_none : (from : ℕ) (ds : List Decl) → Each Standing from (map (declared_entry kind.Param) ds) → decl_spans ds ≡ []
  params_none from [] s = refl
  params_none from (d ∷ ds) s =
      let word = is.words from (declared_entry kind.Param d) d.name s.0 refl in
      no_spans (none_lacking d.word d.name.span word.0 word.1) (params_none (from + 1) ds s.1)

  lefts_none : (from right : ℕ) (ds : List Decl) → Each Standing from (left_entries right ds) → decl_spans ds ≡ []
  lefts_none from right [] s = refl
  lefts_none from right (d ∷ ds) s =
      let word = is.words from (declared_entry (kind.Defined right) d) d.name s.0 refl in
      no_spans (none_lacking d.word d.name.span word.0 word.1) (lefts_none (from + 1) (right + 1) ds s.1)

module _ (w : Within) (n : PlacedNode) (known : (t : List ℕ) → is_in w.streams t ≡ true → IsNamed n (stream_place (known_of w) t)) where
  pub record WrittenDefs (at : Next) (ds : List DefTree) : Type 0 where
    pub rights : AllWritten n at (rights (known_of w) at ds) (def_made (known_of w) at ds)
    pub defined : (from : ℕ) → Each (WrittenPlace n) from (defined (known_of w) at ds)

  pub defs_written : (at : Next) (ds : List DefTree) → AllByRecursion IsShapedDef ds → def_faults w ds ≡ [] → flat_map def_spans ds ≡ [] → WrittenDefs at ds
  defs_written at [] shape good spans = record { rights = record { places = tt; buffers = tt; calls = tt }; defined = λ from. tt }
  defs_written at (d ∷ ds) shape good spans =
      let k : Known = known_of w in
      let r : ℕ = result_count d.left in
      let f : Phrase = phrase_of d.right in
      let next : Next = past_def at d in
      let own = front_empty (def_spans d) (flat_map def_spans ds) spans in
      let rest = defs_written next ds shape.1 (back_empty (phrase_faults w r f) (def_faults w ds) good) (back_empty (def_spans d) (flat_map def_spans ds) spans) in
      record {
        rights = written_join n at next (entries k at r f) (rights k next ds) (made k at r f) (def_made k next ds) (reaches_phrase k at r f)
            (phrase_written w n known at r f (has_shape d.right shape.0.right) (front_empty (phrase_faults w r f) (def_faults w ds) good) (back_empty (decl_spans d.left) (phrase_spans f) own))
            rest.rights;
        defined = λ from.
            each_join (WrittenPlace n) from (from + length d.left) (left_entries (number k at f) d.left) (defined k next ds)
            (let e = length_lefts (number k at f) d.left in omega (arith, e))
            (lefts_written n from (number k at f) d.left (front_empty (decl_spans d.left) (phrase_spans f) own))
            (rest.defined (from + length d.left));
      }

module _ (w : Within) (above : List PlacedNode) (n : PlacedNode) (cs : List Call) (set : Setting w above n cs) (is : IsWritten n) where
  pub defs_none : (at : Next) (ds : List DefTree) (from : ℕ) → AllByRecursion IsShapedDef ds → Lies n cs at (rights (known_of w) at ds) (def_made (known_of w) at ds) →
      Each (λ p e. at_one n.places p ≡ Some e) from (defined (known_of w) at ds) → flat_map def_spans ds ≡ []
  defs_none at [] from shape lies left = refl
  defs_none at (d ∷ ds) from shape lies left =
      let k : Known = known_of w in
      let r : ℕ = result_count d.left in
      let f : Phrase = phrase_of d.right in
      let next : Next = past_def at d in
      let len = length_lefts (number k at f) d.left in
      let front = lies_front n cs at next (entries k at r f) (rights k next ds) (made k at r f) (def_made k next ds) (reaches_phrase k at r f) lies in
      let back = lies_back n cs at next (entries k at r f) (rights k next ds) (made k at r f) (def_made k next ds) (reaches_phrase k at r f) lies in
      no_spans
      (no_spans
      (lefts_none n is from (number k at f) d.left (each_front (λ p e. at_one n.places p ≡ Some e) from (left_entries (number k at f) d.left) (defined k next ds) left))
      (phrase_none w above n cs set is at r f (has_shape d.right shape.0.right) front))
      (defs_none next ds (from + length d.left) shape.1 back
      (each_back (λ p e. at_one n.places p ≡ Some e) from (from + length d.left) (left_entries (number k at f) d.left) (defined k next ds) (omega (arith, len)) left))
