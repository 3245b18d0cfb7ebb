-- When a program is another one with its clocks written out: each node has the places and the calls of the other, at other numbers, with the
-- same words. Where an operand has got a name, that name is one place more.
use Rattle.std.specs.Prelude.{ℕ, ◌≡◌, ◌<◌, ◌≤◌, ◌⊎◌, List, Option, Some, length, map, slice_get}
use Rattle.std.specs.Option.{option_map}
use Rattle.lucy_tree.specs.declared.span.Name.{Name}
use Rattle.lucy_place.specs.declared.entry.PlaceEntry.{PlaceEntry}
use Rattle.lucy_place.specs.declared.entry.PlaceKind.{PlaceKind}
use Rattle.lucy_place.specs.declared.entry.PlaceKind.TheVariants.{Param, Defined, Lit, Op, Host, When, Merge, Fby, Buffer, Result}
use Rattle.lucy_place.specs.declared.entry.CallSite.{CallSite}
use Rattle.lucy_place.specs.declared.placed.PlacedNode.{PlacedNode}
use Rattle.lucy_place.specs.Proper.{at_one, bound_of, Stands, IsPlace}
use Rattle.lucy_need.specs.Meeting.{assigned}
use Rattle.lucy_clock.specs.declared.node_clock.NodeClock.{NodeClock}
use Rattle.lucy_clock.specs.Clocks.{call_clock}

-- a node with its clocks, and the frozen node with its own
pub record Pair : Type 0 where
  pub node : PlacedNode
  pub clock : NodeClock
  pub frozen : PlacedNode
  pub frozen_clock : NodeClock

-- where the places and the calls of the node stand in the frozen one
pub record Renumbering : Type 0 where
  pub place : ℕ → ℕ
  pub call : ℕ → ℕ

-- the frozen node reads a place where the node reads another one: where that stands, or a name that is defined by it
abbrev pub IsReadFor : Renumbering → Pair → (place read : ℕ) → Type 0
IsReadFor r p place read = (read ≡ r.place place) ⊎ Stands p.frozen read (Defined (r.place place))

-- the same of places in a row
pub record AreReadFor (r : Renumbering) (p : Pair) (places reads : List ℕ) : Type 0 where
  pub count : length reads ≡ length places
  pub each : (k place read : ℕ) → slice_get places k ≡ Some place → slice_get reads k ≡ Some read → IsReadFor r p place read

-- a buffer of the frozen node has the size and the bound of a buffer of the node
abbrev pub IsBufferFor : Pair → (buffer frozen : ℕ) → Type 0
IsBufferFor p buffer frozen = (at_one p.clock.sizes buffer ≡ at_one p.frozen_clock.sizes frozen) × (bound_of p.node buffer ≡ bound_of p.frozen frozen)

-- what stands at a place of the frozen node says the same as what stands at a place of the node
abbrev pub SaysSame : Renumbering → Pair → (kind frozen : PlaceKind) → Type 0
SaysSame r p Param Param = Unit {0}
SaysSame r p (Defined e) (Defined f) = IsReadFor r p e f
SaysSame r p (Lit l) (Lit m) = l ≡ m
SaysSame r p (Op op es) (Op other fs) = (op ≡ other) × AreReadFor r p es fs
SaysSame r p (Host op a b) (Host other c d) = (op ≡ other) × IsReadFor r p a c × IsReadFor r p b d
SaysSame r p (When e word) (When f other) = IsReadFor r p e f × (word ≡ other)
SaysSame r p (Merge word a b) (Merge other c d) = (word ≡ other) × IsReadFor r p a c × IsReadFor r p b d
SaysSame r p (Fby l e) (Fby m f) = (l ≡ m) × IsReadFor r p e f
SaysSame r p (Buffer k e) (Buffer l f) = IsReadFor r p e f × IsBufferFor p k l
SaysSame r p (Result c j) (Result d k) = (d ≡ r.call c) × (k ≡ j)
SaysSame r p kind frozen = ⊥

-- the bytes of a place's name, where it has one
abbrev pub named : PlaceEntry → Option (List ℕ)
named entry = option_map (λ (name : Name). name.text) entry.name

-- a place of the node stands in the frozen one, with its name, its type and its word; a parameter at its own number
pub record IsFrozenPlace (r : Renumbering) (p : Pair) (place : ℕ) : Type 0 where
  pub entry : PlaceEntry
  pub there : at_one p.node.places place ≡ Some entry
  pub twin : PlaceEntry
  pub stands : at_one p.frozen.places (r.place place) ≡ Some twin
  pub name : named twin ≡ named entry
  pub holds : twin.holds ≡ entry.holds
  pub says : SaysSame r p entry.kind twin.kind
  pub word : assigned p.clock.words place ≡ assigned p.frozen_clock.words (r.place place)
  pub given : place ≤ p.node.params → r.place place ≡ place

-- a call of the node stands in the frozen one, of the same node, with the same word of its base
pub record IsFrozenCall (r : Renumbering) (p : Pair) (call : ℕ) : Type 0 where
  pub site : CallSite
  pub there : at_one p.node.calls call ≡ Some site
  pub twin : CallSite
  pub stands : at_one p.frozen.calls (r.call call) ≡ Some twin
  pub node : twin.node ≡ site.node
  pub args : AreReadFor r p site.args twin.args
  pub base : assigned p.clock.words (call_clock p.node call) ≡ assigned p.frozen_clock.words (call_clock p.frozen (r.call call))

-- the frozen node is the node with its clocks written out
pub record IsFrozenNode (r : Renumbering) (p : Pair) : Type 0 where
  pub name : p.frozen.name.text ≡ p.node.name.text
  pub params : p.frozen.params ≡ p.node.params
  pub results : p.frozen.results ≡ map r.place p.node.results
  pub places : (place : ℕ) → IsPlace p.node place → IsFrozenPlace r p place
  pub calls : (call : ℕ) → 1 ≤ call → call ≤ length p.node.calls → IsFrozenCall r p call

-- the nodes of a number with their clocks
abbrev pub pair : PlacedNode → NodeClock → PlacedNode → NodeClock → Pair
pair n c m d = record { node = n; clock = c; frozen = m; frozen_clock = d }

-- the node of a number is frozen
pub record IsFrozenAt (nodes : List PlacedNode) (clocks : List NodeClock) (frozen : List PlacedNode) (frozen_clocks : List NodeClock) (i : ℕ) : Type 0 where
  pub n : PlacedNode
  pub c : NodeClock
  pub m : PlacedNode
  pub d : NodeClock
  pub node : slice_get nodes i ≡ Some n
  pub clock : slice_get clocks i ≡ Some c
  pub frozen_node : slice_get frozen i ≡ Some m
  pub frozen_clock : slice_get frozen_clocks i ≡ Some d
  pub renumbering : Renumbering
  pub is : IsFrozenNode renumbering (pair n c m d)

-- a program is another one with its clocks written out: node by node, each by its number
pub record AreFrozen (nodes : List PlacedNode) (clocks : List NodeClock) (frozen : List PlacedNode) (frozen_clocks : List NodeClock) : Type 0 where
  pub count : length frozen ≡ length nodes
  pub each : (i : ℕ) → i < length nodes → IsFrozenAt nodes clocks frozen frozen_clocks i
