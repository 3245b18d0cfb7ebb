-- The instance places of main are those of the program, and no word of an instance is too long.
use Rattle.std.proofs.Common.{◌≡◌, List, [], ◌∷◌, Some, length, map, ap, refl, ◌∙◌, subst}
use Rattle.std.specs.Prelude.{slice_get}
use Rattle.std.proofs.lemmas.List.{append-nil}
use Rattle.lucy_place.specs.declared.placed.PlacedNode.{PlacedNode}
use Rattle.lucy_place.specs.declared.entry.PlaceKind.{PlaceKind}
use Rattle.lucy_place.specs.Proper.{AreProper}
use Rattle.lucy_clock.specs.declared.node_clock.NodeClock.{NodeClock}
use Rattle.lucy_kahn.specs.Spots.{Spot, at, kind_at}
use Rattle.lucy_kahn.specs.Sizes.{all_places}
use Rattle.lucy_kahn.specs.Numbers.{number, spots}
use Rattle.lucy_kahn.proofs.Numbered.{has_spot, count_spots}
use Rattle.lucy_flat.specs.Counts.{last_of}
use Rattle.lucy_flat.specs.Refusals.{IsClockTooLong}
use Rattle.lucy_flat.specs.Drafts.{inside, instance_spots, IsFit, AreFit}

inside_main : (xs : List Spot) → map (inside []) xs ≡ xs
inside_main [] = refl
inside_main (s ∷ xs) = ap (λ p. at p s.place ∷ map (inside []) xs) (append-nil s.path) ∙ ap (λ t. s ∷ t) (inside_main xs)

pub main_spots : (nodes : List PlacedNode) → instance_spots nodes [] (last_of nodes) ≡ spots nodes
main_spots nodes = inside_main (spots nodes)

-- an instance place stands at its number
pub spot_at : (nodes : List PlacedNode) → AreProper nodes → (spot : Spot) (kind : PlaceKind) → kind_at nodes spot ≡ Some kind → slice_get (instance_spots nodes [] (last_of nodes)) (number nodes spot) ≡ Some spot
spot_at nodes proper spot kind e = ap (λ t. slice_get t (number nodes spot)) (main_spots nodes) ∙ has_spot nodes proper spot (kind, e)

pub whole_length : (nodes : List PlacedNode) → AreProper nodes → length (instance_spots nodes [] (last_of nodes)) ≡ all_places nodes
whole_length nodes proper = ap length (main_spots nodes) ∙ count_spots nodes proper

-- no word or base of an instance is too long
pub all_fit : (nodes : List PlacedNode) (clocks : List NodeClock) → AreFit nodes clocks [] (last_of nodes) → IsClockTooLong nodes clocks → ⊥
all_fit nodes clocks fit long =
    let fits = subst (λ p. IsFit nodes clocks p long.clock) (append-nil long.path) (fit long.path long.node long.clock long.found long.low long.high) in
    fits long.base long.is long.shortest long.too_long
