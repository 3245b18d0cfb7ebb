-- How many actors, rings and slots the net of a program has, by its nodes alone, and which limit it passes first.
use Rattle.std.specs.Prelude.{ℕ, ◌+◌, ◌-◌, ◌<◌, ◌≤◌, ◌≡◌, ◌⊎◌, List, length, sum, sum_by, slice_get}
use Rattle.lucy_word.specs.declared.limit.Limit.{Limit}
use Rattle.lucy_word.specs.declared.limit.Limit.TheVariants as limit
use Rattle.lucy_word.specs.Limits.{limit_number}
use Rattle.lucy_place.specs.declared.placed.PlacedNode.{PlacedNode}
use Rattle.lucy_place.specs.declared.entry.PlaceKind.{PlaceKind}
use Rattle.lucy_place.specs.declared.entry.PlaceKind.TheVariants.{Result}
use Rattle.lucy_place.specs.Reads.{operands_of}
use Rattle.lucy_clock.specs.declared.node_clock.NodeClock.{NodeClock}
use Rattle.lucy_kahn.specs.Spots.{main_of, results_in}
use Rattle.lucy_kahn.specs.Sizes.{total_of, all_places}
use Rattle.lucy_flat.specs.Instances.{sizes_in}

-- how many rings a place takes from; that of a parameter of a call is counted at the call
abbrev pub read_count : PlaceKind → ℕ
read_count (Result call number) = 1
read_count kind = length (operands_of kind)

-- the rings that the places of a node take from, those of the parameters of its calls among them
abbrev pub own_rings : ℕ → PlacedNode → ℕ
own_rings i node = sum_by (λ entry. read_count entry.kind) node.places + sum_by (λ site. length site.args) node.calls

-- the sizes of a node's own buffers together
abbrev pub own_sizes : List NodeClock → ℕ → PlacedNode → ℕ
own_sizes clocks i node = sum (sizes_in (slice_get clocks i))

-- the number of main, which is the last node
abbrev pub last_of : List PlacedNode → ℕ
last_of nodes = length nodes - 1

-- the Output actors: one for each result of main
abbrev pub outputs_of : List PlacedNode → ℕ
outputs_of nodes = length (results_in (main_of nodes))

-- an actor for each instance place, and the Output actors
abbrev pub actors_of : List PlacedNode → ℕ
actors_of nodes = all_places nodes + outputs_of nodes

-- the rings from which places take, with calls written out, and one for each Output actor
abbrev pub rings_of : List PlacedNode → ℕ
rings_of nodes = total_of own_rings nodes (last_of nodes) + outputs_of nodes

-- a ring has a slot more than its size
abbrev pub slots_of : List PlacedNode → List NodeClock → ℕ
slots_of nodes clocks = rings_of nodes + total_of (own_sizes clocks) nodes (last_of nodes)

-- the limits of counts are kept
abbrev pub IsKeptBy : ℕ → ℕ → ℕ → Type 0
IsKeptBy actors rings slots = (actors ≤ limit_number limit.Actors) × (rings ≤ limit_number limit.Rings) × (slots ≤ limit_number limit.Slots)

-- the net of the program keeps them
abbrev pub HasSmallNet : List PlacedNode → List NodeClock → Type 0
HasSmallNet nodes clocks = IsKeptBy (actors_of nodes) (rings_of nodes) (slots_of nodes clocks)

-- the first of them that is passed
abbrev pub IsPassedBy : ℕ → ℕ → ℕ → Limit → Type 0
IsPassedBy actors rings slots l =
    ((l ≡ limit.Actors) × (limit_number limit.Actors < actors))
    ⊎ ((l ≡ limit.Rings) × (actors ≤ limit_number limit.Actors) × (limit_number limit.Rings < rings))
    ⊎ ((l ≡ limit.Slots) × (actors ≤ limit_number limit.Actors) × (rings ≤ limit_number limit.Rings) × (limit_number limit.Slots < slots))

-- the first of them that the net of the program passes
abbrev pub NetPasses : List PlacedNode → List NodeClock → Limit → Type 0
NetPasses nodes clocks l = IsPassedBy (actors_of nodes) (rings_of nodes) (slots_of nodes clocks) l
