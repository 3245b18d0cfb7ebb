-- How places are named in print, and the line of a node.
use Rattle.std.specs.Prelude.{ℕ, List, [], ◌++◌, Option, map, codes}
use Rattle.std.specs.Option.{option_and_then, option_map, option_map_or, unwrap_or}
use Rattle.std.specs.List.{join_by, range_with_len}
use Rattle.std.specs.Fmt.{decimal}
use Rattle.lucy_tree.specs.declared.span.Name.{Name}
use Rattle.lucy_place.specs.declared.placed.PlacedNode.{PlacedNode}
use Rattle.lucy_place.specs.Standing.{at_one}

-- what is said of a thing, where it is there, or else nothing
abbrev pub of_one : {A B : Type 0} → (A → List B) → Option A → List B
of_one said o = option_map_or said o []

-- the written name of a place, where it has one
abbrev pub name_at : PlacedNode → ℕ → Option Name
name_at n place = option_and_then (λ entry. entry.name) (at_one n.places place)

-- a place is printed by its name, else as `#` and its number
abbrev pub place_name : PlacedNode → ℕ → List ℕ
place_name n place = unwrap_or (option_map (λ name. name.text) (name_at n place)) (codes "#" ++ decimal place)

-- the printed names of places
abbrev pub place_names : PlacedNode → List ℕ → List (List ℕ)
place_names n places = map (place_name n) places

-- parted by `, `
abbrev pub listed : List (List ℕ) → List ℕ
listed xs = join_by (λ x. x) (codes ", ") xs

-- the places of the parameters: the first ones
abbrev pub param_places : PlacedNode → List ℕ
param_places n = range_with_len 1 n.params

-- `node NAME (PARAMS) = (RESULTS)`
abbrev pub node_line : PlacedNode → List ℕ
node_line n =
    codes "node " ++ (n.name.text ++ (codes " (" ++ (listed (place_names n (param_places n))
    ++ (codes ") = (" ++ (listed (place_names n n.results) ++ codes ")\n")))))
