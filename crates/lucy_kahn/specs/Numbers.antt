-- The numbers of instance places, from 0: those of main first, then those of the instances that its calls make, call by
-- call, each followed by those inside it.
use Rattle.std.specs.Prelude.{ℕ, suc, ◌+◌, ◌-◌, List, [], ◌∷◌, ◌++◌, map, length, take, sum_by, Option, Some, None}
use Rattle.std.specs.List.{range_with_len}
use Rattle.lucy_stream.specs.Iterates.{Place}
use Rattle.lucy_place.specs.declared.placed.PlacedNode.{PlacedNode}
use Rattle.lucy_place.specs.declared.entry.CallSite.{CallSite}
use Rattle.lucy_kahn.specs.Spots.{Spot, at, node_from, main_of, form_at, reads_at}
use Rattle.lucy_kahn.specs.Sizes.{size_of, entry_of}

-- how far behind the begin of an instance of a node the instance of one of its calls begins
abbrev pub call_offset : List PlacedNode → Option PlacedNode → ℕ → ℕ
call_offset nodes None call = 0
call_offset nodes (Some node) call = length node.places + sum_by (λ site. size_of nodes site.node) (take (call - 1) node.calls)

-- where an instance begins, from the begin of an instance of the node at which the path begins
abbrev pub begin_from : List PlacedNode → Option PlacedNode → List ℕ → ℕ
begin_from nodes begin [] = 0
begin_from nodes begin (call ∷ path) = begin_from nodes begin path + call_offset nodes (node_from nodes begin path) call

-- the number of an instance place
abbrev pub number : List PlacedNode → Spot → ℕ
number nodes spot = begin_from nodes (main_of nodes) spot.path + (spot.place - 1)

-- the instance place that is this one of the instance which a call of main makes
abbrev pub within_call : ℕ → Spot → Spot
within_call call spot = at (spot.path ++ call ∷ []) spot.place

-- those of the instances that calls make, where those of the nodes are known
abbrev pub inner_spots : (ℕ → List Spot) → ℕ → List CallSite → List Spot
inner_spots known call [] = []
inner_spots known call (site ∷ sites) = map (within_call call) (known site.node) ++ inner_spots known (suc call) sites

-- the instance places of a program whose main is this node
abbrev pub spots_in : (ℕ → List Spot) → ℕ → PlacedNode → List Spot
spots_in known i node = map (at []) (range_with_len 1 (length node.places)) ++ inner_spots known 1 node.calls

-- the same, of a node by its number
abbrev pub spots_of : List PlacedNode → ℕ → List Spot
spots_of nodes node = entry_of [] spots_in nodes node

-- the instance places of a program, in order of their numbers
abbrev pub spots : List PlacedNode → List Spot
spots nodes = spots_of nodes (length nodes - 1)

-- the same as places that read others by their numbers
abbrev pub numbered_place : List PlacedNode → Spot → Place
numbered_place nodes spot = record { form = form_at nodes spot; reads = map (number nodes) (reads_at nodes spot) }

-- all instance places so, in order of their numbers
abbrev pub numbered_places : List PlacedNode → List Place
numbered_places nodes = map (numbered_place nodes) (spots nodes)
