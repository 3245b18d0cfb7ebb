-- How items of a program's flat net are named in print.
use Rattle.std.specs.Prelude.{ℕ, ◌≡◌, List, [], ◌∷◌, ◌++◌, Some, length, slice_get, codes}
use Rattle.std.specs.Fmt.{decimal}
use Rattle.lucy_place.specs.declared.placed.PlacedNode.{PlacedNode}
use Rattle.lucy_kahn.specs.Spots.{Spot, IsSpot, node_at}
use Rattle.lucy_kahn.specs.Numbers.{number}
use Rattle.lucy_net.specs.declared.error.Item.{Item}
use Rattle.lucy_program.specs.Names.{of_one, place_name}

-- `callA.callB.` for the calls that lead from main to an instance
abbrev pub path_text : List ℕ → List ℕ
path_text [] = []
path_text (call ∷ path) = path_text path ++ (codes "call" ++ (decimal call ++ codes "."))

-- an instance place: the calls that lead to its instance, then its place's name there
abbrev pub spot_name : List PlacedNode → Spot → List ℕ
spot_name nodes spot = path_text spot.path ++ of_one (λ n. place_name n spot.place) (node_at nodes spot.path)

-- the name of an actor: that of the instance place with its number
pub record IsActorName (nodes : List PlacedNode) (actor : ℕ) (name : List ℕ) : Type 0 where
  pub spot : Spot
  pub there : IsSpot nodes spot
  pub numbered : number nodes spot ≡ actor
  pub is : name ≡ spot_name nodes spot

-- for each item the name of its actor
pub record AreNamesOf (nodes : List PlacedNode) (items : List Item) (names : List (List ℕ)) : Type 0 where
  pub count : length names ≡ length items
  pub each : (i : ℕ) (item : Item) (name : List ℕ) → slice_get items i ≡ Some item → slice_get names i ≡ Some name → IsActorName nodes item.actor name
