-- What the flat net of a program is: an actor for each instance place in order, and then one for each result of main.
use Rattle.std.specs.Prelude.{ℕ, ◌+◌, ◌-◌, ◌≡◌, List, [], ◌∷◌, map, length, Some, slice_get, slice_index_or}
use Rattle.std.specs.List.{flat_map, range_with_len}
use Rattle.lucy_place.specs.declared.placed.PlacedNode.{PlacedNode}
use Rattle.lucy_place.specs.declared.entry.PlaceKind.{PlaceKind}
use Rattle.lucy_place.specs.declared.entry.PlaceKind.TheVariants as place_kind
use Rattle.lucy_stream.specs.Forms.{Form, Given, Constant, Pointwise, Hosted, Kept, Merged, Delayed, Same}
use Rattle.lucy_clock.specs.declared.node_clock.NodeClock.{NodeClock}
use Rattle.lucy_net.specs.declared.net.Actor.{Actor}
use Rattle.lucy_net.specs.declared.kind.ActorKind.{ActorKind}
use Rattle.lucy_net.specs.declared.kind.ActorKind.TheVariants.{Input, Lit, Op, Host, When, Merge, Fby, Pass, Output}
use Rattle.lucy_net.specs.declared.net.RingSpec.{RingSpec}
use Rattle.lucy_net.specs.declared.net.Net.{Net}
use Rattle.lucy_net.specs.Plans.{giver}
use Rattle.lucy_net.specs.Proper.{IsProperActor, IsProperRing, IsProper}
use Rattle.lucy_kahn.specs.Spots.{Spot, at, main_of, kind_at, spot_form, spot_reads, results_in}
use Rattle.lucy_kahn.specs.Sizes.{all_places}
use Rattle.lucy_kahn.specs.Numbers.{number}
use Rattle.lucy_flat.specs.Instances.{index_at, sizes_in, IsSpotWord}

-- the actor of a form: what isn't one of the other kinds passes its items on
abbrev pub actor_of : Form → ActorKind
actor_of (Given input) = Input input
actor_of (Constant value) = Lit value
actor_of (Pointwise op) = Op op
actor_of (Hosted op) = Host op
actor_of (Kept word) = When word
actor_of (Merged word) = Merge word
actor_of (Delayed first) = Fby first
actor_of Same = Pass

-- the instance place on whose word the actor of an instance place fires: a sampling fires on that of its operand
abbrev pub fires_at : Spot → PlaceKind → Spot
fires_at spot (place_kind.When e word) = at spot.path e
fires_at spot kind = spot

-- the actor of an instance place stands at its number. It is of the place's form, and takes from the actors of what the place
-- reads, in the order of its operands.
pub record IsActorOf (nodes : List PlacedNode) (clocks : List NodeClock) (net : Net) (spot : Spot) (kind : PlaceKind) : Type 0 where
  pub actor : Actor
  pub there : slice_get net.actors (number nodes spot) ≡ Some actor
  pub does : actor.kind ≡ actor_of (spot_form spot kind)
  pub reads : map (giver net) actor.takes ≡ map (number nodes) (spot_reads nodes spot kind)
  pub firing : IsSpotWord nodes clocks (fires_at spot kind) actor.firing

-- the actor of a result of main, counted from 0, stands behind those of all instance places, and takes from that of its place
pub record IsOutput (nodes : List PlacedNode) (clocks : List NodeClock) (net : Net) (i place : ℕ) : Type 0 where
  pub actor : Actor
  pub there : slice_get net.actors (all_places nodes + i) ≡ Some actor
  pub kind : actor.kind ≡ Output i
  pub reads : map (giver net) actor.takes ≡ number nodes (at [] place) ∷ []
  pub firing : IsSpotWord nodes clocks (at [] place) actor.firing

-- the size of the ring from which a place takes: that of its buffer, and 0 for any other
abbrev pub ring_size : List NodeClock → ℕ → PlaceKind → ℕ
ring_size clocks node (place_kind.Buffer k e) = slice_index_or (sizes_in (slice_get clocks node)) (k - 1) 0
ring_size clocks node kind = 0

-- the net has these actors, in this order; rings are numbered by the taking actor and then by its operand, with the sizes of the
-- buffers; and the net is good, in whatever way is meant
pub record IsFlatAnd (IsGood : Net → Type 0) (nodes : List PlacedNode) (clocks : List NodeClock) (net : Net) : Type 0 where
  pub count : length net.actors ≡ all_places nodes + length (results_in (main_of nodes))
  pub actors : (spot : Spot) (kind : PlaceKind) → kind_at nodes spot ≡ Some kind → IsActorOf nodes clocks net spot kind
  pub outputs : (i place : ℕ) → slice_get (results_in (main_of nodes)) i ≡ Some place → IsOutput nodes clocks net i place
  pub rings : flat_map (λ actor. actor.takes) net.actors ≡ range_with_len 0 (length net.rings)
  pub sizes : (spot : Spot) (kind : PlaceKind) (actor : Actor) (k r : ℕ) (ring : RingSpec) → kind_at nodes spot ≡ Some kind →
      slice_get net.actors (number nodes spot) ≡ Some actor → slice_get actor.takes k ≡ Some r → slice_get net.rings r ≡ Some ring →
      ring.size ≡ ring_size clocks (index_at nodes spot.path) kind
  pub proper : IsGood net

-- the flat net is proper, so that the words of its rings are those of its actors
abbrev pub IsFlat : List PlacedNode → List NodeClock → Net → Type 0
IsFlat nodes clocks net = IsFlatAnd IsProper nodes clocks net

-- of a proper net this is left, were there no limits
pub record HasProperParts (net : Net) : Type 0 where
  pub actors : (a : ℕ) (actor : Actor) → slice_get net.actors a ≡ Some actor → IsProperActor net a actor
  pub rings : (r : ℕ) (ring : RingSpec) → slice_get net.rings r ≡ Some ring → IsProperRing net r ring

-- the flat net that a program would have, were there no limits
abbrev pub WouldBeFlat : List PlacedNode → List NodeClock → Net → Type 0
WouldBeFlat nodes clocks net = IsFlatAnd HasProperParts nodes clocks net
