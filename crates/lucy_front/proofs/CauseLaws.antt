-- Items of a program's flat net that depend on each other are of instance places: nothing reads an output.
use Rattle.std.proofs.Common.{ℕ, zero, suc, ◌+◌, ◌-◌, ◌<◌, ◌≡◌, List, [], ◌∷◌, map, Some, ap, sym, refl, ◌∙◌, subst, inl, inr, arith}
use Rattle.std.specs.Prelude.{slice_get}
use Rattle.std.specs.List.{AllByRecursion}
use Rattle.std.proofs.lemmas.Bool.{cases_lt}
use Rattle.std.proofs.lemmas.Option.{same_Some, slice_get_within, slice_get-map}
use Rattle.lucy_word.proofs.Lists.{all_at}
use Rattle.lucy_host.proofs.Elements.{get_there}
use Rattle.lucy_place.specs.declared.placed.PlacedNode.{PlacedNode}
use Rattle.lucy_place.specs.declared.entry.PlaceKind.{PlaceKind}
use Rattle.lucy_place.specs.Proper.{AreProper}
use Rattle.lucy_clock.specs.declared.node_clock.NodeClock.{NodeClock}
use Rattle.lucy_stream.specs.Iterates.{Place}
use Rattle.lucy_stream.specs.Needs.{StreamItem, Needs, IsWalk, IsCycle}
use Rattle.lucy_net.specs.declared.net.Actor.{Actor}
use Rattle.lucy_net.specs.declared.net.Net.{Net}
use Rattle.lucy_net.specs.Plans.{giver}
use Rattle.lucy_net.specs.Causal.{actor_place, net_places}
use Rattle.lucy_kahn.specs.Spots.{Spot, at, main_of, kind_at, spot_reads, results_in, IsSpot}
use Rattle.lucy_kahn.specs.Sizes.{all_places}
use Rattle.lucy_kahn.specs.Numbers.{number}
use Rattle.lucy_kahn.proofs.JoinedLists.{mapped}
use Rattle.lucy_kahn.proofs.Closed.{closed_at}
use Rattle.lucy_kahn.proofs.Numbered.{number_below, number_reached}
use Rattle.lucy_flat.specs.Flat.{IsFlat}
use Rattle.lucy_flat.proofs.OutputLaws.{main_result}
use Rattle.lucy_net.specs.declared.error.Item.{Item as CodeItem}
use Rattle.lucy_net.specs.Faults.{item_of}

module _ (nodes : List PlacedNode) (clocks : List NodeClock) (net : Net) (proper : AreProper nodes) (flat : IsFlat nodes clocks net) where
  -- what the actor of an instance place reads is one of an instance place
  place_reads : (spot : Spot) (kind : PlaceKind) (actor : Actor) (k b : ℕ) → kind_at nodes spot ≡ Some kind → slice_get net.actors (number nodes spot) ≡ Some actor →
      slice_get (map (giver net) actor.takes) k ≡ Some b → b < all_places nodes
  place_reads spot kind actor k b stands here reads =
      let is = flat.actors spot kind stands in
      let same : actor ≡ is.actor = same_Some actor is.actor (sym here ∙ is.there) in
      let numbers : map (giver net) actor.takes ≡ map (number nodes) (spot_reads nodes spot kind) = ap (λ (a : Actor). map (giver net) a.takes) same ∙ is.reads in
      let from = mapped (number nodes) _ b (sym (slice_get-map (number nodes) (spot_reads nodes spot kind) k) ∙ ap (λ l. slice_get l k) (sym numbers) ∙ reads) in
      subst (λ j. j < all_places nodes) from.2 (number_below nodes proper from.0 (all_at (IsSpot nodes) (spot_reads nodes spot kind) k from.0 (closed_at nodes proper spot kind stands) from.1))

  -- and what that of a result reads
  output_reads : (i place : ℕ) (actor : Actor) (k b : ℕ) → slice_get (results_in (main_of nodes)) i ≡ Some place → slice_get net.actors (all_places nodes + i) ≡ Some actor →
      slice_get (map (giver net) actor.takes) k ≡ Some b → b < all_places nodes
  output_reads i place actor k b stands here reads =
      let is = flat.outputs i place stands in
      let same : actor ≡ is.actor = same_Some actor is.actor (sym here ∙ is.there) in
      let numbers : map (giver net) actor.takes ≡ number nodes (at [] place) ∷ [] = ap (λ (a : Actor). map (giver net) a.takes) same ∙ is.reads in
      let found = main_result nodes clocks proper (results_in (main_of nodes)) i place refl stands in
      let low = number_below nodes proper (at [] place) (found.kind, found.stands) in
      one k (ap (λ l. slice_get l k) (sym numbers) ∙ reads) low
    where
      one : (j : ℕ) → slice_get (number nodes (at [] place) ∷ []) j ≡ Some b → number nodes (at [] place) < all_places nodes → b < all_places nodes
      one zero e low = subst (λ j. j < all_places nodes) (same_Some (number nodes (at [] place)) b e) low
      one (suc j) e low = absurd (cc e)

  reads_below : (a : ℕ) (actor : Actor) (k b : ℕ) → slice_get net.actors a ≡ Some actor → slice_get (map (giver net) actor.takes) k ≡ Some b → b < all_places nodes
  reads_below a actor k b here reads =
      elim (cases_lt a (all_places nodes)) [
        | inl low ↦
            let spot = number_reached nodes proper a low in
            place_reads spot.0 spot.1.0 actor k b spot.1.1 (ap (slice_get net.actors) spot.2 ∙ here) reads
        | inr high ↦
            let within = slice_get_within net.actors a actor here in
            let i : ℕ = a - all_places nodes in
            let result = get_there (results_in (main_of nodes)) i (omega (arith, within, high, flat.count)) in
            let is : all_places nodes + i ≡ a = omega (arith, high) in
            output_reads i result.0 actor k b result.1 (ap (slice_get net.actors) is ∙ here) reads
      ]

  need_below : (x y : StreamItem) → Needs (net_places net) x y → y.place < all_places nodes
  need_below x y needs =
      let from = mapped (actor_place net) _ needs.place (sym (slice_get-map (actor_place net) net.actors x.place) ∙ needs.there) in
      let actor : Actor = from.0 in
      let reads : slice_get (map (giver net) actor.takes) needs.operand ≡ Some y.place = ap (λ (p : Place). slice_get p.reads needs.operand) from.2 ∙ needs.reads in
      reads_below x.place actor needs.operand y.place from.1 reads

  walk_below : (x : StreamItem) (walk : List StreamItem) (end : StreamItem) → IsWalk (net_places net) x walk end → AllByRecursion (λ (y : StreamItem). y.place < all_places nodes) walk × (end.place < all_places nodes)
  walk_below x [] end is = (tt, need_below x end is)
  walk_below x (y ∷ walk) end is = let rest = walk_below y walk end is.1 in ((need_below x y is.0, rest.0), rest.1)

  cycle_below : (items : List StreamItem) → IsCycle (net_places net) items → AllByRecursion (λ (y : StreamItem). y.place < all_places nodes) items
  cycle_below [] is = absurd is
  cycle_below (x ∷ walk) is = let all = walk_below x walk x is in (all.1, all.0)

  pub items_below : (items : List CodeItem) → IsCycle (net_places net) (map item_of items) → AllByRecursion (λ (item : CodeItem). item.actor < all_places nodes) items
  items_below items is = back items (cycle_below (map item_of items) is)
    where
      back : (xs : List CodeItem) → AllByRecursion (λ (y : StreamItem). y.place < all_places nodes) (map item_of xs) → AllByRecursion (λ (item : CodeItem). item.actor < all_places nodes) xs
      back [] all = tt
      back (x ∷ xs) all = (all.0, back xs all.1)
