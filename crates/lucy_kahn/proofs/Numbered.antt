-- Instance places and their numbers.
use Rattle.std.proofs.Common.{ℕ, suc, ◌-◌, ◌<◌, ◌≡◌, List, [], ◌∷◌, Option, Some, None, length, ap, sym, refl, ◌∙◌, arith}
use Rattle.std.specs.Prelude.{slice_get, option_map}
use Rattle.std.proofs.lemmas.List.{length-map}
use Rattle.std.proofs.lemmas.Option.{same_Some, slice_get_within, slice_get-map}
use Rattle.lucy_host.proofs.Elements.{get_there}
use Rattle.lucy_place.specs.declared.placed.PlacedNode.{PlacedNode}
use Rattle.lucy_place.specs.Proper.{AreProper}
use Rattle.lucy_kahn.specs.Spots.{Spot, main_of, node_from, node_at, IsSpot}
use Rattle.lucy_kahn.proofs.Parts.{kind_in}
use Rattle.lucy_kahn.specs.Sizes.{all_places}
use Rattle.lucy_kahn.specs.Numbers.{number, spots, numbered_place, numbered_places}
use Rattle.lucy_kahn.proofs.Paths.{none_from}
use Rattle.lucy_kahn.proofs.SpotLists.{number_from, IsSpotFrom, length_spots, listed}

-- a program with an instance place has a main
main_there : (nodes : List PlacedNode) (spot : Spot) → IsSpot nodes spot → (n : PlacedNode) × (main_of nodes ≡ Some n)
main_there nodes spot is = from_main (main_of nodes) refl
  where
    from_main : (o : Option PlacedNode) → main_of nodes ≡ o → (n : PlacedNode) × (main_of nodes ≡ Some n)
    from_main None e =
        let none : node_at nodes spot.path ≡ None = ap (λ o. node_from nodes o spot.path) e ∙ none_from nodes spot.path in
        let never : None ≡ Some is.0 = sym (ap (λ o. kind_in o spot.place) none) ∙ is.1 in
        absurd (cc never)
    from_main (Some n) e = (n, e)

module _ (nodes : List PlacedNode) (proper : AreProper nodes) where
  -- an instance place stands in the list, at its number
  pub has_spot : (spot : Spot) → IsSpot nodes spot → slice_get (spots nodes) (number nodes spot) ≡ Some spot
  has_spot spot is =
      let main = main_there nodes spot is in
      let mine : IsSpotFrom nodes (Some main.0) spot = (is.0, sym (ap (λ o. kind_in (node_from nodes o spot.path) spot.place) main.1) ∙ is.1) in
      ap (λ o. slice_get (spots nodes) (number_from nodes o spot)) main.1 ∙ (listed nodes proper (length nodes - 1) main.0 main.1).has spot.path spot.place mine

  pub count_spots : length (spots nodes) ≡ all_places nodes
  count_spots = from_nodes nodes refl
    where
      from_nodes : (xs : List PlacedNode) → nodes ≡ xs → length (spots nodes) ≡ all_places nodes
      from_nodes [] e = ap (λ (xs : List PlacedNode). length (spots xs)) e ∙ sym (ap all_places e)
      from_nodes (x ∷ xs) e =
          let some : length nodes ≡ length (x ∷ xs) = ap (λ (ys : List PlacedNode). length ys) e in
          let main = get_there nodes (length nodes - 1) (omega arith) in
          length_spots nodes proper (suc (length nodes)) (length nodes - 1) main.0 (omega arith) main.1

  pub number_below : (spot : Spot) → IsSpot nodes spot → number nodes spot < all_places nodes
  number_below spot is = omega (arith, slice_get_within (spots nodes) (number nodes spot) spot (has_spot spot is), count_spots)

  pub number_own : (x y : Spot) → IsSpot nodes x → IsSpot nodes y → number nodes x ≡ number nodes y → x ≡ y
  number_own x y x_is y_is e = same_Some x y (sym (has_spot x x_is) ∙ ap (slice_get (spots nodes)) e ∙ has_spot y y_is)

  pub number_reached : (k : ℕ) → k < all_places nodes → (spot : Spot) × IsSpot nodes spot × (number nodes spot ≡ k)
  number_reached k l =
      let spot = get_there (spots nodes) k (omega (arith, l, count_spots)) in
      let main = main_for (main_of nodes) refl in
      let r = (listed nodes proper (length nodes - 1) main.0 main.1).alone k spot.0 spot.1 in
      (spot.0, (r.0.0, ap (λ o. kind_in (node_from nodes o spot.0.path) spot.0.place) main.1 ∙ r.0.1), ap (λ o. number_from nodes o spot.0) main.1 ∙ r.1)
    where
      main_for : (o : Option PlacedNode) → main_of nodes ≡ o → (n : PlacedNode) × (main_of nodes ≡ Some n)
      main_for None e = absurd (never nodes l e)
        where
          never : (xs : List PlacedNode) → k < all_places xs → main_of xs ≡ None → ⊥
          never [] h f = omega arith
          never (x ∷ xs) h f =
              let m = get_there (x ∷ xs) (length (x ∷ xs) - 1) (omega arith) in
              let bad : None ≡ Some m.0 = sym f ∙ m.1 in
              cc bad
      main_for (Some n) e = (n, e)

  pub place_there : (spot : Spot) → IsSpot nodes spot → slice_get (numbered_places nodes) (number nodes spot) ≡ Some (numbered_place nodes spot)
  place_there spot is = slice_get-map (numbered_place nodes) (spots nodes) (number nodes spot) ∙ ap (option_map (numbered_place nodes)) (has_spot spot is)

  pub count_places : length (numbered_places nodes) ≡ all_places nodes
  count_places = length-map (spots nodes) (numbered_place nodes) ∙ count_spots
