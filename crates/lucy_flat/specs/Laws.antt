-- What holds of every flat net.
use Rattle.std.specs.Prelude.{ℕ, ℤ, suc, ◌≡◌, ◌≤◌, ◌+◌, ◌↔◌, List, [], Some, length, sum_by, slice_get}
use Rattle.lucy_word.specs.Limits.{limit_number}
use Rattle.lucy_word.specs.declared.limit.Limit.{Limit}
use Rattle.lucy_word.specs.declared.limit.Limit.TheVariants as limit
use Rattle.lucy_host.specs.declared.kind.HostKind.{HostKind}
use Rattle.lucy_stream.specs.Items.{list_at}
use Rattle.lucy_stream.specs.Iterates.{iterate}
use Rattle.lucy_stream.specs.Needs.{IsCausal}
use Rattle.lucy_place.specs.declared.placed.PlacedNode.{PlacedNode}
use Rattle.lucy_place.specs.Proper.{AreProper}
use Rattle.lucy_clock.specs.declared.node_clock.NodeClock.{NodeClock}
use Rattle.lucy_net.specs.declared.net.Net.{Net}
use Rattle.lucy_net.specs.Causal.{net_places}
use Rattle.lucy_kahn.specs.Spots.{Spot, at, main_of, IsSpot, results_in}
use Rattle.lucy_kahn.specs.Sizes.{all_places}
use Rattle.lucy_kahn.specs.Numbers.{number}
use Rattle.lucy_kahn.specs.Kahn.{kahn}
use Rattle.lucy_kahn.specs.Items.{IsCausalProgram}
use Rattle.lucy_flat.specs.Clocked.{AreClocked}
use Rattle.lucy_flat.specs.Flat.{IsFlat, WouldBeFlat}
use Rattle.lucy_flat.specs.Counts.{actors_of, rings_of, slots_of, IsPassedBy, NetPasses}
use Rattle.lucy_flat.specs.Refusals.{IsFlatNet, RefusesFlat, net_bits}
use Rattle.lucy_flat.specs.declared.error.FlatError.TheVariants as error

-- the iterates of the net are those of the program, place by place
abbrev pub PlacesIterate : Type 0
PlacesIterate = (kinds : List HostKind) (inputs : List (List ℤ)) (nodes : List PlacedNode) (clocks : List NodeClock) (net : Net) (n : ℕ) (spot : Spot) →
    AreProper nodes → IsFlat nodes clocks net → IsSpot nodes spot →
    list_at (iterate kinds inputs (net_places net) n) (number nodes spot) ≡ kahn kinds inputs nodes n spot

-- an output has the list that its result had in the iterate before
abbrev pub OutputsIterate : Type 0
OutputsIterate = (kinds : List HostKind) (inputs : List (List ℤ)) (nodes : List PlacedNode) (clocks : List NodeClock) (net : Net) (n i place : ℕ) →
    AreProper nodes → IsFlat nodes clocks net → slice_get (results_in (main_of nodes)) i ≡ Some place →
    list_at (iterate kinds inputs (net_places net) (suc n)) (all_places nodes + i) ≡ kahn kinds inputs nodes n (at [] place)

-- the net is causal exactly where the program is
abbrev pub NetsAreCausal : Type 0
NetsAreCausal = (nodes : List PlacedNode) (clocks : List NodeClock) (net : Net) →
    AreProper nodes → IsFlat nodes clocks net → IsCausalProgram nodes ↔ IsCausal (net_places net)

-- a program with clocks has one flat net
abbrev pub OneNet : Type 0
OneNet = (nodes : List PlacedNode) (clocks : List NodeClock) (net other : Net) → AreProper nodes → IsFlatNet nodes clocks net → IsFlatNet nodes clocks other → net ≡ other

-- it passes at most one limit first
abbrev pub OneLimit : Type 0
OneLimit = (nodes : List PlacedNode) (clocks : List NodeClock) (l other : Limit) → RefusesFlat nodes clocks (error.Limit l) → RefusesFlat nodes clocks (error.Limit other) → l ≡ other

-- a program that passes one has no flat net within the limits
abbrev pub FlatOrRefused : Type 0
FlatOrRefused = (nodes : List PlacedNode) (clocks : List NodeClock) (net : Net) (l : Limit) →
    AreProper nodes → IsFlatNet nodes clocks net → net_bits net ≤ limit_number limit.Bits → RefusesFlat nodes clocks (error.Limit l) → ⊥

-- a flat net is the one that its program would have, were there no limits
abbrev pub FlatWouldBe : Type 0
FlatWouldBe = (nodes : List PlacedNode) (clocks : List NodeClock) (net : Net) → IsFlat nodes clocks net → WouldBeFlat nodes clocks net

-- that has as many actors as are counted from the nodes
abbrev pub ActorsCounted : Type 0
ActorsCounted = (nodes : List PlacedNode) (clocks : List NodeClock) (net : Net) → WouldBeFlat nodes clocks net → length net.actors ≡ actors_of nodes

-- as many rings
abbrev pub RingsCounted : Type 0
RingsCounted = (nodes : List PlacedNode) (clocks : List NodeClock) (net : Net) →
    AreProper nodes → AreClocked nodes clocks → WouldBeFlat nodes clocks net → length net.rings ≡ rings_of nodes

-- and as many slots, by the sizes of the buffers too
abbrev pub SlotsCounted : Type 0
SlotsCounted = (nodes : List PlacedNode) (clocks : List NodeClock) (net : Net) →
    AreProper nodes → AreClocked nodes clocks → WouldBeFlat nodes clocks net → sum_by (λ ring. ring.size + 1) net.rings ≡ slots_of nodes clocks

-- so it passes the limit for which its program is refused
abbrev pub LimitIsPassed : Type 0
LimitIsPassed = (nodes : List PlacedNode) (clocks : List NodeClock) (net : Net) (l : Limit) →
    AreProper nodes → AreClocked nodes clocks → WouldBeFlat nodes clocks net → NetPasses nodes clocks l →
    IsPassedBy (length net.actors) (length net.rings) (sum_by (λ ring. ring.size + 1) net.rings) l
