-- What a drawing of a node shows: its places, which place reads which, its buffers and its calls. Places, buffers and calls count from 1,
-- the operands of a place from 0.
use Rattle.std.specs.Prelude.{ℕ, ◌+◌, ◌≡◌, ◌<◌, ◌⊎◌, Bool, true, false, List, [], ◌∷◌, Some, length, slice_get}
use Rattle.lucy_place.specs.declared.entry.PlaceEntry.{PlaceEntry}
use Rattle.lucy_place.specs.declared.entry.PlaceKind.{PlaceKind}
use Rattle.lucy_place.specs.declared.entry.PlaceKind.TheVariants as kind
use Rattle.lucy_place.specs.declared.entry.CallSite.{CallSite}
use Rattle.lucy_place.specs.declared.placed.PlacedNode.{PlacedNode}
use Rattle.lucy_place.specs.Standing.{at_one, bound_of}
use Rattle.lucy_place.specs.Proper.{IsProperCall}
use Rattle.lucy_place.specs.Reads.{Reads}
use Rattle.lucy_clock.specs.declared.node_clock.NodeClock.{NodeClock}
use Rattle.lucy_clock.specs.Clocks.{call_clock}
use Rattle.lucy_diagram.specs.declared.place.Figure.{Figure}
use Rattle.lucy_diagram.specs.declared.place.Figure.TheVariants as figure
use Rattle.lucy_diagram.specs.declared.place.DrawnPlace.{DrawnPlace}
use Rattle.lucy_diagram.specs.declared.edge.Edge.{Edge}
use Rattle.lucy_diagram.specs.declared.buffer.DrawnBuffer.{DrawnBuffer}
use Rattle.lucy_diagram.specs.declared.call.DrawnCall.{DrawnCall}

-- as what a place is drawn
abbrev pub figure_of : PlaceKind → Figure
figure_of kind.Param = figure.Parameter
figure_of (kind.Defined e) = figure.Name
figure_of (kind.Lit l) = figure.Literal
figure_of (kind.Op op args) = figure.Operator
figure_of (kind.Host op a b) = figure.Operator
figure_of (kind.When e word) = figure.Sampling
figure_of (kind.Merge word a b) = figure.Merge
figure_of (kind.Fby l e) = figure.Delay
figure_of (kind.Buffer k e) = figure.Buffer
figure_of (kind.Result call j) = figure.CallResult

-- places from a number on, each once
abbrev pub drawn_from : ℕ → List PlaceEntry → List DrawnPlace
drawn_from p [] = []
drawn_from p (e ∷ es) = record { place = p; figure = figure_of e.kind } ∷ drawn_from (p + 1) es

-- the places of a node, in order
abbrev pub drawn_places : PlacedNode → List DrawnPlace
drawn_places n = drawn_from 1 n.places

-- a place of this kind gives what it reads an item later
abbrev pub is_late : PlaceKind → Bool
is_late (kind.Fby l e) = true
is_late k = false

-- an edge comes from the place that is read as this operand of the place to which it goes; it is late where that is a `fby`
pub record IsEdge (n : PlacedNode) (edge : Edge) : Type 0 where
  pub reads : Reads n edge.to edge.seat edge.from
  pub late : edge.late ≡ is_late reads.entry.kind

-- there is an edge for this operand
pub record HasEdge (edges : List Edge) (p k q : ℕ) : Type 0 where
  pub number : ℕ
  pub edge : Edge
  pub there : slice_get edges number ≡ Some edge
  pub to : edge.to ≡ p
  pub seat : edge.seat ≡ k
  pub from : edge.from ≡ q

-- an edge stands before another: that of an earlier place, or of an earlier operand of the same place
abbrev pub IsBefore : Edge → Edge → Type 0
IsBefore edge other = (edge.to < other.to) ⊎ ((edge.to ≡ other.to) × (edge.seat < other.seat))

-- the edges are exactly what places read: each is one, there is one for all that a place reads, and they stand in order, none twice
pub record AreEdges (n : PlacedNode) (edges : List Edge) : Type 0 where
  pub are : (i : ℕ) (edge : Edge) → slice_get edges i ≡ Some edge → IsEdge n edge
  pub all : (p k q : ℕ) → Reads n p k q → HasEdge edges p k q
  pub order : (i j : ℕ) (edge other : Edge) → i < j → slice_get edges i ≡ Some edge → slice_get edges j ≡ Some other → IsBefore edge other

-- the buffer of a number: its place, its printed size, and its bound, where one is written
pub record IsDrawnBuffer (n : PlacedNode) (c : NodeClock) (k : ℕ) (buffer : DrawnBuffer) : Type 0 where
  pub number : buffer.number ≡ k
  pub place : at_one n.buffers k ≡ Some buffer.place
  pub size : at_one c.sizes k ≡ Some buffer.size
  pub bound : buffer.bound ≡ bound_of n k

-- each buffer once, in order
pub record AreDrawnBuffers (n : PlacedNode) (c : NodeClock) (buffers : List DrawnBuffer) : Type 0 where
  pub all : length buffers ≡ length n.buffers
  pub each : (i : ℕ) (buffer : DrawnBuffer) → slice_get buffers i ≡ Some buffer → IsDrawnBuffer n c (i + 1) buffer

-- the call of a number: the node that it calls, the clock whose word is that of its base, and the places of its results
pub record IsDrawnCall (nodes : List PlacedNode) (n : PlacedNode) (k : ℕ) (call : DrawnCall) : Type 0 where
  pub number : call.number ≡ k
  pub site : CallSite
  pub there : at_one n.calls k ≡ Some site
  pub node : call.node ≡ site.node
  pub base : call.base ≡ call_clock n k
  pub first : call.first ≡ site.first
  pub proper : IsProperCall nodes n k site
  pub count : call.results ≡ length proper.callee.results

-- each call once, in order
pub record AreDrawnCalls (nodes : List PlacedNode) (n : PlacedNode) (calls : List DrawnCall) : Type 0 where
  pub all : length calls ≡ length n.calls
  pub each : (i : ℕ) (call : DrawnCall) → slice_get calls i ≡ Some call → IsDrawnCall nodes n (i + 1) call
