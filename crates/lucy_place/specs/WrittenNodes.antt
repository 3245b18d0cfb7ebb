-- When a placed node is written, as its places and calls tell.
use Rattle.std.specs.Prelude.{ℕ, ◌≡◌, ◌↔◌, List, Option, Some, None, slice_get}
use Rattle.lucy_word.specs.Bits.{Bits}
use Rattle.lucy_tree.specs.declared.span.Span.{Span}
use Rattle.lucy_tree.specs.declared.span.Name.{Name}
use Rattle.lucy_place.specs.declared.entry.PlaceEntry.{PlaceEntry}
use Rattle.lucy_place.specs.declared.entry.PlaceKind.TheVariants.{When, Buffer}
use Rattle.lucy_place.specs.declared.entry.CallSite.{CallSite}
use Rattle.lucy_place.specs.declared.placed.PlacedNode.{PlacedNode}
use Rattle.lucy_place.specs.Proper.{at_one, Stands, IsNamed, AreNamed}

-- each place that has a name has its word, and each call the word of its base; the operand of each `when`, `whenot` and
-- `buffer` and each argument of a call has a name
pub record IsWritten (n : PlacedNode) : Type 0 where
  pub words : (p : ℕ) (entry : PlaceEntry) (name : Name) → at_one n.places p ≡ Some entry → entry.name ≡ Some name → (word : Bits) × (entry.word ≡ Some word)
  pub bases : (c : ℕ) (site : CallSite) → at_one n.calls c ≡ Some site → (word : Bits) × (site.at ≡ Some word)
  pub sampled : (p e : ℕ) (word : Bits) → Stands n p (When e word) → IsNamed n e
  pub buffered : (p b e : ℕ) → Stands n p (Buffer b e) → IsNamed n e
  pub arguments : (c : ℕ) (site : CallSite) → at_one n.calls c ≡ Some site → AreNamed n site.args

-- no span keeps a node from being written exactly where it is written
abbrev pub TellWritten : List PlacedNode → List (Option Span) → Type 0
TellWritten nodes unwritten = (i : ℕ) (n : PlacedNode) (span : Option Span) → slice_get nodes i ≡ Some n → slice_get unwritten i ≡ Some span → (span ≡ None) ↔ IsWritten n
