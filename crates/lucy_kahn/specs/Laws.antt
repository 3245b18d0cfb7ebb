-- What the laws of the meaning of a program say.
use Rattle.std.specs.Prelude.{ℕ, suc, ◌<◌, ◌≤◌, ◌≡◌, ◌↔◌, List, ℤ, All, Some, length, slice_get}
use Rattle.lucy_word.specs.Bits.{Bits}
use Rattle.lucy_host.specs.declared.kind.HostKind.{HostKind}
use Rattle.lucy_stream.specs.Items.{list_at}
use Rattle.lucy_stream.specs.Fronts.{IsFront, AreFronts}
use Rattle.lucy_stream.specs.Iterates.{iterate}
use Rattle.lucy_stream.specs.Needs.{IsCausal}
use Rattle.lucy_place.specs.declared.placed.PlacedNode.{PlacedNode}
use Rattle.lucy_place.specs.Proper.{AreProper}
use Rattle.lucy_kahn.specs.Spots.{Spot, IsSpot, reads_at}
use Rattle.lucy_kahn.specs.Sizes.{all_places}
use Rattle.lucy_kahn.specs.Kahn.{kahn}
use Rattle.lucy_kahn.specs.Items.{SpotItem, DependsOn, IsSpotWalk, IsCausalProgram}
use Rattle.lucy_kahn.specs.Horizons.{IsHorizon}
use Rattle.lucy_kahn.specs.Numbers.{number, numbered_place, numbered_places}

-- what an instance place reads is an instance place
abbrev pub ReadsLaw : Type 0
ReadsLaw = (nodes : List PlacedNode) (spot : Spot) → AreProper nodes → IsSpot nodes spot → All (IsSpot nodes) (reads_at nodes spot)

-- a list is a front of the same place's in every later iterate
abbrev pub LaterLaw : Type 0
LaterLaw = (kinds : List HostKind) (inputs : List (List ℤ)) (nodes : List PlacedNode) (n m : ℕ) (spot : Spot) → AreProper nodes → IsSpot nodes spot → n ≤ m →
    IsFront (kahn kinds inputs nodes n spot) (kahn kinds inputs nodes m spot)

-- and where the inputs go on
abbrev pub MoreInputsLaw : Type 0
MoreInputsLaw = (kinds : List HostKind) (inputs more : List (List ℤ)) (nodes : List PlacedNode) (n : ℕ) (spot : Spot) → AreProper nodes → IsSpot nodes spot → AreFronts inputs more →
    IsFront (kahn kinds inputs nodes n spot) (kahn kinds more nodes n spot)

-- an item that an iterate has depends on items that the iterate before has
abbrev pub ItemsBeforeLaw : Type 0
ItemsBeforeLaw = (kinds : List HostKind) (inputs : List (List ℤ)) (nodes : List PlacedNode) (n : ℕ) (x y : SpotItem) → AreProper nodes → 1 ≤ x.number → DependsOn nodes x y →
    x.number ≤ length (kahn kinds inputs nodes (suc n) x.spot) → y.number ≤ length (kahn kinds inputs nodes n y.spot)

-- and doesn't lead to itself
abbrev pub NoCycleLaw : Type 0
NoCycleLaw = (kinds : List HostKind) (inputs : List (List ℤ)) (nodes : List PlacedNode) (n : ℕ) (x : SpotItem) (walk : List SpotItem) → AreProper nodes → 1 ≤ x.number →
    x.number ≤ length (kahn kinds inputs nodes n x.spot) → IsSpotWalk nodes x walk x → ⊥

-- inputs have one horizon
abbrev pub OneHorizonLaw : Type 0
OneHorizonLaw = (words : List Bits) (inputs : List (List ℤ)) (most s t : ℕ) → IsHorizon words inputs most s → IsHorizon words inputs most t → s ≡ t

-- the number of an instance place is below the number of all
abbrev pub NumberBelowLaw : Type 0
NumberBelowLaw = (nodes : List PlacedNode) (spot : Spot) → AreProper nodes → IsSpot nodes spot → number nodes spot < all_places nodes

-- and no other's
abbrev pub OwnNumberLaw : Type 0
OwnNumberLaw = (nodes : List PlacedNode) (x y : Spot) → AreProper nodes → IsSpot nodes x → IsSpot nodes y → number nodes x ≡ number nodes y → x ≡ y

-- each number below that is of some instance place
abbrev pub NumberedLaw : Type 0
NumberedLaw = (nodes : List PlacedNode) (k : ℕ) → AreProper nodes → k < all_places nodes → (spot : Spot) × IsSpot nodes spot × (number nodes spot ≡ k)

-- under its number the place stands, with its form and the numbers of what it reads
abbrev pub NumberedPlaceLaw : Type 0
NumberedPlaceLaw = (nodes : List PlacedNode) (spot : Spot) → AreProper nodes → IsSpot nodes spot →
    slice_get (numbered_places nodes) (number nodes spot) ≡ Some (numbered_place nodes spot)

-- and nothing else does
abbrev pub NumberedCountLaw : Type 0
NumberedCountLaw = (nodes : List PlacedNode) → AreProper nodes → length (numbered_places nodes) ≡ all_places nodes

-- by number the iterates of a program are those of its numbered places
abbrev pub IterateByNumberLaw : Type 0
IterateByNumberLaw = (kinds : List HostKind) (inputs : List (List ℤ)) (nodes : List PlacedNode) (n : ℕ) (spot : Spot) → AreProper nodes → IsSpot nodes spot →
    list_at (iterate kinds inputs (numbered_places nodes) n) (number nodes spot) ≡ kahn kinds inputs nodes n spot

-- a program is causal exactly where its numbered places are
abbrev pub CausalByNumberLaw : Type 0
CausalByNumberLaw = (nodes : List PlacedNode) → AreProper nodes → IsCausalProgram nodes ↔ IsCausal (numbered_places nodes)
