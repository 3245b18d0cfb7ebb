-- What is told of one buffer of an accepted program, by the number of its node from 0 and its own from 1, and why nothing is.
use Rattle.std.specs.Prelude.{ℕ, ◌-◌, ◌<◌, ◌≤◌, ◌≡◌, ◌⊎◌, List, [], Some, length, take, slice_get}
use Rattle.std.specs.List.{AllByRecursion}
use Rattle.lucy_word.specs.Bits.{Bits}
use Rattle.lucy_word.specs.Limits.{limit_number}
use Rattle.lucy_word.specs.declared.limit.Limit.TheVariants as limit
use Rattle.lucy_word.specs.Shortest.{IsShortest}
use Rattle.lucy_place.specs.declared.entry.PlaceKind.TheVariants.{Buffer}
use Rattle.lucy_place.specs.declared.placed.PlacedNode.{PlacedNode}
use Rattle.lucy_place.specs.Standing.{at_one, Stands}
use Rattle.lucy_place.specs.WrittenNodes.{IsWritten}
use Rattle.lucy_need.specs.Meeting.{Assignment, assigned, word_bits}
use Rattle.lucy_need.specs.declared.need.Needs.{Needs}
use Rattle.lucy_clock.specs.declared.node_clock.NodeClock.{NodeClock}
use Rattle.lucy_clock.specs.NodeClocks.{signatures, AreSizes}
use Rattle.lucy_solve.specs.System.{DifferenceSystem, IsNegativeCycle}
use Rattle.lucy_shape.specs.declared.shape.Shape.{Shape}
use Rattle.lucy_shape.specs.Index.{index_of}
use Rattle.lucy_shape.specs.Sized.{HasSizeWithin, sized_system}
use Rattle.lucy_rates.specs.Vectors.{IsShapeOf}
use Rattle.lucy_inference.specs.Earliest.{FitsAndMeets}
use Rattle.lucy_inference.specs.Inference.{HasLongClock}
use Rattle.lucy_program.specs.declared.accepted.Accepted.{Accepted}
use Rattle.lucy_program.specs.declared.options.Options.{Options}
use Rattle.lucy_program.specs.Inferring.{node_needs}
use Rattle.lucy_tight.specs.declared.answer.Least.{Least}
use Rattle.lucy_tight.specs.declared.answer.TightError.{TightError}
use Rattle.lucy_tight.specs.declared.answer.TightError.TheVariants.{Fixed, Limit as LimitPassed}
use Rattle.lucy_tight.specs.Least.{HasTooManyInequalities}

-- the needs of a node with the printed clocks of the nodes above it
abbrev pub needs_at : Accepted → (node : ℕ) → PlacedNode → Needs
needs_at a node n = node_needs (signatures (take node a.placed.nodes) (take node a.clocks.items)) n

-- the buffer: its node with the printed clocks, the place that it reads, its own place, and its printed size
pub record TheBuffer (a : Accepted) (node buffer : ℕ) : Type 0 where
  pub n : PlacedNode
  pub stands : slice_get a.placed.nodes node ≡ Some n
  pub c : NodeClock
  pub clocked : slice_get a.clocks.items node ≡ Some c
  pub from : ℕ
  pub to : ℕ
  pub place : at_one n.buffers buffer ≡ Some to
  pub reads : Stands n to (Buffer buffer from)
  pub size : ℕ
  pub printed : at_one c.sizes buffer ≡ Some size

-- the assignment fits the shape and meets the needs, and no more than so many items ever wait between the two clocks
pub record FitsWithin (needs : Needs) (shape : Shape) (from to size : ℕ) (w : Assignment) : Type 0 where
  pub is : FitsAndMeets needs shape w
  pub within : HasSizeWithin (w from) (w to) size

-- the earliest such assignment for the least size that has any: no other one for it has any one of any clock earlier
pub record IsTightestAssignment (needs : Needs) (shape : Shape) (from to least : ℕ) (w : Assignment) : Type 0 where
  pub is : FitsWithin needs shape from to least w
  pub smallest : (size : ℕ) (other : Assignment) → FitsWithin needs shape from to size other → least ≤ size
  pub earliest : (other : Assignment) → FitsWithin needs shape from to least other → (clock number : ℕ) → clock < needs.clocks →
      index_of (w clock) number ≤ index_of (other clock) number

-- its words, one for each clock and in shortest form
pub record AreTightestWords (needs : Needs) (shape : Shape) (from to least : ℕ) (words : List Bits) : Type 0 where
  pub count : length words ≡ needs.clocks
  pub shortest : AllByRecursion IsShortest words
  pub tightest : IsTightestAssignment needs shape from to least (assigned words)

-- the tightest words, within all limits, with the inequalities of one less and a negative cycle of them: for size 0 those for 0, and no cycle
pub record AreTight (needs : Needs) (shape : Shape) (from to least : ℕ) (words : List Bits) (diffs : DifferenceSystem) (cycle : List ℕ) : Type 0 where
  pub few : HasTooManyInequalities needs shape from to → ⊥
  pub are : AreTightestWords needs shape from to least words
  pub short : HasLongClock shape (assigned words) → ⊥
  pub bits : word_bits words ≤ limit_number limit.Bits
  pub less : diffs ≡ sized_system needs shape from to (least - 1)
  pub shown : 0 < least → IsNegativeCycle diffs.list cycle
  pub none : least ≡ 0 → cycle ≡ []

-- why nothing is told of the shape: the inequalities are too many, else a word has too many bits before it is shortened, else
-- the words in shortest form have too many together
abbrev pub PassesLimit : Needs → Shape → (from to : ℕ) → TightError → Type 0
PassesLimit needs shape from to (LimitPassed l) =
    ((l ≡ limit.Inequalities) × HasTooManyInequalities needs shape from to)
    ⊎ ((HasTooManyInequalities needs shape from to → ⊥) × (least : ℕ)
    × (((l ≡ limit.Word) × (w : Assignment) × IsTightestAssignment needs shape from to least w × HasLongClock shape w)
    ⊎ ((l ≡ limit.Bits) × (words : List Bits) × AreTightestWords needs shape from to least words × (HasLongClock shape (assigned words) → ⊥)
    × (limit_number limit.Bits < word_bits words))))
PassesLimit needs shape from to e = ⊥

-- the node isn't written. its printed size is told, and in the shape of the node's needs the least size, the earliest clocks of the
-- node for it with the sizes of all its buffers, and why one less is too small
pub record IsTightened (a : Accepted) (o : Options) (node buffer : ℕ) (t : Least) : Type 0 where
  pub of : TheBuffer a node buffer
  pub unwritten : IsWritten of.n → ⊥
  pub printed : t.printed ≡ of.size
  pub needs : t.needs ≡ needs_at a node of.n
  pub shape : IsShapeOf t.needs o.scale o.lead t.shape
  pub tightest : AreTight t.needs t.shape of.from of.to t.least t.clocks.words t.diffs t.cycle.items
  pub sizes : AreSizes of.n t.clocks

-- why nothing is told: the node is written, and its size with it; else a limit is passed in the shape of its needs
abbrev pub RefusesTight : Accepted → Options → (node buffer : ℕ) → TightError → Type 0
RefusesTight a o node buffer (Fixed size) = (of : TheBuffer a node buffer) × IsWritten of.n × (size ≡ of.size)
RefusesTight a o node buffer e =
    (of : TheBuffer a node buffer) × (IsWritten of.n → ⊥)
    × (shape : Shape) × IsShapeOf (needs_at a node of.n) o.scale o.lead shape × PassesLimit (needs_at a node of.n) shape of.from of.to e

-- two answers tell the same but for the cycle
pub record AreAlike (one two : Least) : Type 0 where
  pub printed : one.printed ≡ two.printed
  pub least : one.least ≡ two.least
  pub clocks : one.clocks ≡ two.clocks
  pub needs : one.needs ≡ two.needs
  pub shape : one.shape ≡ two.shape
  pub diffs : one.diffs ≡ two.diffs
