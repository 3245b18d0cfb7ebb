-- The instance places of a program: the places of main, and those of each instance that a call makes of the node it calls.
use Rattle.std.specs.Prelude.{ℕ, ◌-◌, ◌≡◌, List, [], ◌∷◌, map, length, slice_get, slice_index_or, Option, Some, option_map}
use Rattle.std.specs.Option.{option_and_then, option_map_or}
use Rattle.lucy_stream.specs.Forms.{Form, Given, Constant, Pointwise, Hosted, Kept, Merged, Delayed, Same}
use Rattle.lucy_place.specs.declared.placed.PlacedNode.{PlacedNode}
use Rattle.lucy_place.specs.declared.entry.CallSite.{CallSite}
use Rattle.lucy_place.specs.declared.entry.PlaceKind.{PlaceKind}
use Rattle.lucy_place.specs.declared.entry.PlaceKind.TheVariants.{Param, Lit, Op, Host, When, Merge, Fby, Result}
use Rattle.lucy_place.specs.Proper.{at_one}
use Rattle.lucy_place.specs.Literals.{literal_value}
use Rattle.lucy_place.specs.Reads.{operands_of}

-- an instance place: the calls that lead from main to its instance, the last one first, and the place in the node that is
-- called there. Calls and places count from 1.
pub record Spot : Type 0 where
  pub path : List ℕ
  pub place : ℕ

-- the instance place with this path and this place
abbrev pub at : List ℕ → ℕ → Spot
at path place = record { path = path; place = place }

-- the call of a number in a node
abbrev pub site_in : Option PlacedNode → ℕ → Option CallSite
site_in o call = option_and_then (λ n. at_one n.calls call) o

-- the node that a path of calls leads to from a node
abbrev pub node_from : List PlacedNode → Option PlacedNode → List ℕ → Option PlacedNode
node_from nodes begin [] = begin
node_from nodes begin (call ∷ path) = option_and_then (λ site. slice_get nodes site.node) (site_in (node_from nodes begin path) call)

-- main is the last node
abbrev pub main_of : List PlacedNode → Option PlacedNode
main_of nodes = slice_get nodes (length nodes - 1)

-- the node that a path of calls leads to from main
abbrev pub node_at : List PlacedNode → List ℕ → Option PlacedNode
node_at nodes path = node_from nodes (main_of nodes) path

-- what stands at an instance place, if it is one
abbrev pub kind_at : List PlacedNode → Spot → Option PlaceKind
kind_at nodes spot = option_map (λ entry. entry.kind) (option_and_then (λ n. at_one n.places spot.place) (node_at nodes spot.path))

-- it is an instance place: something stands there
abbrev pub IsSpot : List PlacedNode → Spot → Type 0
IsSpot nodes spot = (kind : PlaceKind) × (kind_at nodes spot ≡ Some kind)

-- the place of a call's argument in the caller
abbrev pub argument : Option CallSite → ℕ → ℕ
argument o place = option_map_or (λ site. slice_index_or site.args (place - 1) 0) o 0

-- the place of a result in the node that is called
abbrev pub result_place : Option PlacedNode → ℕ → ℕ
result_place o number = option_map_or (λ n. slice_index_or n.results number 0) o 0

-- a parameter of main has an input of its own, that of a call hands on
abbrev pub param_form : List ℕ → ℕ → Form
param_form [] place = Given (place - 1)
param_form (call ∷ path) place = Same

-- a parameter of main reads nothing, that of a call the call's argument
abbrev pub param_reads : List PlacedNode → List ℕ → ℕ → List Spot
param_reads nodes [] place = []
param_reads nodes (call ∷ path) place = at path (argument (site_in (node_at nodes path) call) place) ∷ []

-- The form of an instance place, by what stands there. The result of a call is that of the node that is called.
abbrev pub spot_form : Spot → PlaceKind → Form
spot_form spot Param = param_form spot.path spot.place
spot_form spot (Lit l) = Constant (literal_value l)
spot_form spot (Op op args) = Pointwise op
spot_form spot (Host op a b) = Hosted op
spot_form spot (When e word) = Kept word
spot_form spot (Merge word a b) = Merged word
spot_form spot (Fby l e) = Delayed (literal_value l)
spot_form spot kind = Same

-- The instance places that it reads, in the order of its operands: a parameter of a call reads in the caller, a result of a
-- call in the instance that the call makes, and any other place in its own instance.
abbrev pub spot_reads : List PlacedNode → Spot → PlaceKind → List Spot
spot_reads nodes spot Param = param_reads nodes spot.path spot.place
spot_reads nodes spot (Result call number) = at (call ∷ spot.path) (result_place (node_at nodes (call ∷ spot.path)) number) ∷ []
spot_reads nodes spot kind = map (at spot.path) (operands_of kind)

-- the form of an instance place
abbrev pub form_at : List PlacedNode → Spot → Form
form_at nodes spot = option_map_or (spot_form spot) (kind_at nodes spot) Same

-- the instance places that an instance place reads; what isn't one reads nothing
abbrev pub reads_at : List PlacedNode → Spot → List Spot
reads_at nodes spot = option_map_or (spot_reads nodes spot) (kind_at nodes spot) []

-- the places of a node's results
abbrev pub results_in : Option PlacedNode → List ℕ
results_in o = option_map_or (λ n. n.results) o []

-- the instance places of main's results, in order
abbrev pub results_of : List PlacedNode → List Spot
results_of nodes = map (at []) (results_in (main_of nodes))
