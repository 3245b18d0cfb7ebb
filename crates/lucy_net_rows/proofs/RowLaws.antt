-- What is known of the lists of main's results.
use Rattle.std.proofs.Common.{◌≡◌, List, ℤ, [], Some, length, map, ap, ◌∙◌}
use Rattle.std.proofs.lemmas.List.{length-map}
use Rattle.lucy_place.specs.declared.placed.PlacedNode.{PlacedNode}
use Rattle.lucy_kahn.specs.Spots.{Spot, at, main_of, results_in, results_of}

-- there is a list for each result of main
pub result_lists : (nodes : List PlacedNode) (node : PlacedNode) (f : Spot → List ℤ) (lists : List (List ℤ)) → lists ≡ map f (results_of nodes) → main_of nodes ≡ Some node → length lists ≡ length node.results
result_lists nodes node f lists e main =
    ap length e ∙ length-map (results_of nodes) f ∙ length-map (results_in (main_of nodes)) (at []) ∙ ap (λ o. length (results_in o)) main
