-- What is shown of places, buffers and calls that lie in a node: their numbers name what they should.
use Rattle.std.proofs.Common.{◌≡◌, ◌+◌, ◌<◌, ℕ, true, List, length, map, Some, slice_get, arith}
use Rattle.lucy_tree.specs.View.{NodeTree}
use Rattle.lucy_place.specs.declared.entry.PlaceEntry.{PlaceEntry}
use Rattle.lucy_place.specs.declared.entry.PlaceKind.{PlaceKind}
use Rattle.lucy_place.specs.declared.entry.PlaceKind.TheVariants as kind
use Rattle.lucy_place.specs.declared.placed.PlacedNode.{PlacedNode}
use Rattle.lucy_naming.specs.Texts.{is_in}
use Rattle.lucy_naming.specs.Streams.{node_names}
use Rattle.lucy_naming.specs.Faults.{Within}
use Rattle.lucy_naming.specs.Numbering.{Next}
use Rattle.lucy_naming.specs.Places.{Known, stream_place}
use Rattle.lucy_place.specs.Proper.{at_one, Stands, IsPlace, ArePlaces, IsNamed, IsLabelled, IsProperKind}
use Rattle.lucy_naming.proofs.EachLaws.{one_within}
use Rattle.lucy_naming.proofs.Spread.{Call, Spread}
use Rattle.lucy_naming.proofs.CallLaws.{site}

-- what names stand for
abbrev pub known_of : Within → Known
known_of w = record { operators = w.operators; nodes = node_names w.above; streams = w.streams }

-- places, buffers and calls lie in a node and its calls at these numbers
abbrev pub Lies : PlacedNode → List Call → Next → List PlaceEntry → List Call → Type 0
Lies n cs at es ds = Spread (λ p e. at_one n.places p ≡ Some e) (λ b p. at_one n.buffers b ≡ Some p) (λ c x. at_one cs c ≡ Some x) at es ds

-- a result is one of its call's
abbrev pub IsResultOf : List Call → ℕ → PlaceKind → Type 0
IsResultOf cs p (kind.Result c j) = (x : Call) × (at_one cs c ≡ Some x) × (p ≡ x.site.first + j) × (j < x.results)
IsResultOf cs p _ = Unit {0}

pub record GoodPlace (n : PlacedNode) (cs : List Call) (p : ℕ) (e : PlaceEntry) : Type 0 where
  pub label : IsLabelled e.kind e
  pub kind : IsProperKind n p e.kind
  pub result : IsResultOf cs p e.kind

abbrev pub GoodBuffer : PlacedNode → ℕ → ℕ → Type 0
GoodBuffer n b p = (e : ℕ) × Stands n p (kind.Buffer b e)

pub record GoodCall (above : List PlacedNode) (n : PlacedNode) (c : ℕ) (x : Call) : Type 0 where
  pub callee : PlacedNode
  pub found : slice_get above x.site.node ≡ Some callee
  pub arguments : length x.site.args ≡ callee.params
  pub places : ArePlaces n x.site.args
  pub count : x.results ≡ length callee.results
  pub some : 0 < x.results
  pub results : (j : ℕ) → j < x.results → Stands n (x.site.first + j) (kind.Result c j)

abbrev pub Good : List PlacedNode → PlacedNode → List Call → Next → List PlaceEntry → List Call → Type 0
Good above n cs at es ds = Spread (GoodPlace n cs) (GoodBuffer n) (GoodCall above n) at es ds

-- the node above that a tree stands for
pub record Callee (above : List PlacedNode) (i : ℕ) (t : NodeTree) : Type 0 where
  pub node : PlacedNode
  pub found : slice_get above i ≡ Some node
  pub params : node.params ≡ length t.params
  pub results : length node.results ≡ length t.results

-- what is known of a node, its calls, and the nodes above it
pub record Setting (w : Within) (above : List PlacedNode) (n : PlacedNode) (cs : List Call) : Type 0 where
  pub calls : n.calls ≡ map site cs
  pub known : (t : List ℕ) → is_in w.streams t ≡ true → IsNamed n (stream_place (known_of w) t)
  pub callees : (i : ℕ) (t : NodeTree) → slice_get w.above i ≡ Some t → Callee above i t

-- what stands at a number stands at a place
pub is_place : (n : PlacedNode) (p : ℕ) (e : PlaceEntry) → at_one n.places p ≡ Some e → IsPlace n p
is_place n p e g = let h = one_within n.places p e g in (omega (arith, h.0), omega (arith, h.1))
