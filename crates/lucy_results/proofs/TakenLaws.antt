-- The lists of a core's outputs, one by one.
use Rattle.std.proofs.Common.{ℕ, ◌+◌, ◌<◌, ◌≡◌, List, [], ◌∷◌, ◌++◌, Some, length, map, take, drop, get_or, ap, sym, ◌∙◌, arith, length-drop, get_or-drop}
use Rattle.std.specs.Prelude.{ℤ, slice_get, option_map}
use Rattle.std.proofs.lemmas.List.{length-map, take_more, drop-map}
use Rattle.std.proofs.lemmas.Option.{get_or_from_slice_get, slice_get-map}
use Rattle.lucy_host.proofs.Elements.{get_there}
use Rattle.lucy_place.specs.declared.placed.PlacedNode.{PlacedNode}
use Rattle.lucy_place.specs.Proper.{AreProper}
use Rattle.lucy_clock.specs.declared.node_clock.NodeClock.{NodeClock}
use Rattle.lucy_stream.specs.States.{State}
use Rattle.lucy_net.specs.declared.net.Actor.{Actor}
use Rattle.lucy_net.specs.declared.net.Net.{Net}
use Rattle.lucy_core.specs.Seen.{IsOutputOf, first_ring}
use Rattle.lucy_kahn.specs.Spots.{main_of, results_in}
use Rattle.lucy_kahn.specs.Sizes.{all_places}
use Rattle.lucy_flat.specs.Flat.{IsFlat}
use Rattle.lucy_results.specs.Taking.{taken_lists}
use Rattle.lucy_results.proofs.NetLaws.{output_of}

-- an item behind the first ones, of a list that was mapped
pub mapped_at : {A B : Type 0} (f : A → B) (n : ℕ) (xs : List A) (i : ℕ) (x : A) (d : B) → slice_get xs (n + i) ≡ Some x → get_or (map f (drop n xs)) i d ≡ f x
mapped_at f n xs i x d e =
    ap (λ ys. get_or ys i d) (sym (drop-map f n xs)) ∙ get_or-drop n (map f xs) i d
    ∙ get_or_from_slice_get (map f xs) (n + i) (f x) d (slice_get-map f xs (n + i) ∙ ap (option_map f) e)

module _ (nodes : List PlacedNode) (clocks : List NodeClock) (net : Net) (proper : AreProper nodes) (flat : IsFlat nodes clocks net) (s : State) where
  -- there are as many as results
  pub taken_count : length (taken_lists nodes net s) ≡ length (results_in (main_of nodes))
  taken_count =
      let all = length-map (drop (all_places nodes) net.actors) (λ (actor : Actor). s.took (first_ring actor)) in
      omega (arith, all, length-drop {A = Actor} (all_places nodes) net.actors, flat.count)

  -- the lists so far with the next one
  pub next_taken : (i : ℕ) → i < length (results_in (main_of nodes)) → (list : List ℤ) → ((a : ℕ) (actor : Actor) → IsOutputOf net i a actor → list ≡ s.took (first_ring actor)) →
      take i (taken_lists nodes net s) ++ list ∷ [] ≡ take (i + 1) (taken_lists nodes net s)
  next_taken i l list took =
      let place = get_there (results_in (main_of nodes)) i l in
      let of = flat.outputs i place.0 place.1 in
      let is = took (all_places nodes + i) of.actor (output_of nodes clocks proper net flat i place.0 place.1) in
      let here = mapped_at (λ (actor : Actor). s.took (first_ring actor)) (all_places nodes) net.actors i of.actor [] of.there in
      ap (λ xs. take i (taken_lists nodes net s) ++ xs ∷ []) (is ∙ sym here) ∙ sym (take_more (taken_lists nodes net s) i [] (omega (arith, l, taken_count)))
