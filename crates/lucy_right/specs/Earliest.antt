-- Which clocks are found, where a program leaves them open: the earliest of a shape. The choice of the shape, and of the earliest, are this project's own
-- profile of Lucy-n (Mandel, Plateau and Pouzet 2010).
use Rattle.std.specs.Prelude.{ℕ, ◌<◌, ◌≤◌, ◌≡◌, ◌⊎◌, List, Some, take, slice_get}
use Rattle.lucy_word.specs.Bits.{Bits}
use Rattle.lucy_host.specs.Operators.{Operator}
use Rattle.lucy_place.specs.declared.placed.PlacedNode.{PlacedNode}
use Rattle.lucy_place.specs.WrittenNodes.{IsWritten}
use Rattle.lucy_need.specs.Meeting.{Assignment, assigned}
use Rattle.lucy_clock.specs.declared.signature.Signature.{Signature}
use Rattle.lucy_clock.specs.declared.node_clock.NodeClock.{NodeClock}
use Rattle.lucy_clock.specs.Clocks.{clocks_of}
use Rattle.lucy_clock.specs.NodeClocks.{signatures}
use Rattle.lucy_clock.specs.WellClocked.{IsWellClocked}
use Rattle.lucy_shape.specs.declared.shape.Shape.{Shape}
use Rattle.lucy_shape.specs.Index.{index_of}
use Rattle.lucy_shape.specs.Fitting.{FitsShape}
use Rattle.lucy_rates.specs.Vectors.{IsShapeOf}
use Rattle.lucy_program.specs.declared.accepted.Accepted.{Accepted}
use Rattle.lucy_program.specs.declared.options.Options.{Options}
use Rattle.lucy_program.specs.Inferring.{node_needs}
use Rattle.lucy_program.specs.Accepting.{IsAccepted}
use Rattle.lucy_right.specs.Right.{Meaning}

-- the words of a node are the earliest of the shape that its needs have with a scale and a lead: by them the table of forms holds at every instant, and
-- of all words by which it does and which fit the shape no other ones have any one of any clock earlier
pub record AreEarliest (above : List Signature) (n : PlacedNode) (scale lead : ℕ) (words : List Bits) : Type 0 where
  pub shape : Shape
  pub of_needs : IsShapeOf (node_needs above n) scale lead shape
  pub fits : FitsShape (assigned words) shape
  pub well : IsWellClocked above n (assigned words)
  pub earliest : (other : Assignment) → IsWellClocked above n other → FitsShape other shape →
      (clock number : ℕ) → clock < clocks_of n → index_of (assigned words clock) number ≤ index_of (other clock) number

-- the clocks of what a program stands for are chosen so: each node is written, or its clocks are the earliest, by the clocks of the nodes above it
abbrev pub AreChosen : (scale lead : ℕ) → Meaning → Type 0
AreChosen scale lead m = (i : ℕ) (n : PlacedNode) (c : NodeClock) → slice_get m.nodes i ≡ Some n → slice_get m.clocks i ≡ Some c →
    IsWritten n ⊎ AreEarliest (signatures (take i m.nodes) (take i m.clocks)) n scale lead c.words

-- a node of an accepted text is written, or its clocks are the earliest, by the clocks of the nodes above it
abbrev pub FoundAreEarliest : Type 0
FoundAreEarliest = (ops : List Operator) (o : Options) (text : List ℕ) (a : Accepted) → IsAccepted ops o text a →
    (i : ℕ) (n : PlacedNode) (c : NodeClock) → slice_get a.placed.nodes i ≡ Some n → slice_get a.clocks.items i ≡ Some c →
    IsWritten n ⊎ AreEarliest (signatures (take i a.placed.nodes) (take i a.clocks.items)) n o.scale o.lead c.words
