-- A flat net means what its program does.
use Rattle.std.proofs.Common.{ℕ, suc, ◌+◌, ◌-◌, ◌<◌, ◌≡◌, List, [], ◌∷◌, Some, map, ap, sym, refl, ◌∙◌, subst, inl, inr, arith}
use Rattle.std.specs.Prelude.{ℤ, slice_get, option_map}
use Rattle.std.proofs.lemmas.Bool.{cases_lt}
use Rattle.std.proofs.lemmas.List.{length-map}
use Rattle.std.proofs.lemmas.Option.{same_Some, slice_get_within, slice_get-map}
use Rattle.lucy_word.proofs.Lists.{all_at, only_one, map_from}
use Rattle.lucy_host.specs.declared.kind.HostKind.{HostKind}
use Rattle.lucy_host.proofs.Elements.{get_there}
use Rattle.lucy_stream.specs.Forms.{Form, Same}
use Rattle.lucy_stream.specs.Items.{list_at}
use Rattle.lucy_stream.specs.Iterates.{Place, iterate}
use Rattle.lucy_stream.specs.Names.{Named, AreIterates, AreNumbered}
use Rattle.lucy_stream.specs.Needs.{StreamItem, Needs, IsWalk, IsCausal}
use Rattle.lucy_stream.proofs.NameLaws.{named_iterates}
use Rattle.lucy_stream.proofs.IterateLaws.{iterate-at}
use Rattle.lucy_place.specs.declared.placed.PlacedNode.{PlacedNode}
use Rattle.lucy_place.specs.Proper.{AreProper}
use Rattle.lucy_clock.specs.declared.node_clock.NodeClock.{NodeClock}
use Rattle.lucy_net.specs.declared.net.Net.{Net}
use Rattle.lucy_net.specs.Plans as plans
use Rattle.lucy_net.specs.Causal.{actor_place, net_places}
use Rattle.lucy_kahn.specs.Spots.{Spot, at, main_of, IsSpot, spot_form, form_at, reads_at, results_in}
use Rattle.lucy_kahn.proofs.Parts.{form_if, reads_if}
use Rattle.lucy_kahn.specs.Sizes.{all_places}
use Rattle.lucy_kahn.specs.Numbers.{number, numbered_place, numbered_places}
use Rattle.lucy_kahn.specs.Kahn.{kahn}
use Rattle.lucy_kahn.proofs.Closed.{closed, all_of}
use Rattle.lucy_kahn.proofs.Numbered.{number_below, number_reached, place_there, count_places}
use Rattle.lucy_flat.specs.Flat.{IsFlat}
use Rattle.lucy_flat.proofs.RingWords.{form_back}
use Rattle.lucy_flat.proofs.FlatLaws.{main_spot}

-- the instance places of a program, by themselves
abbrev program_places : List PlacedNode → Named Spot
program_places nodes = record { IsThere = IsSpot nodes; form = form_at nodes; reads = reads_at nodes }

place_is : (form other : Form) (reads more : List ℕ) → form ≡ other → reads ≡ more → (let a : Place = record { form = form; reads = reads } in a) ≡ record { form = other; reads = more }
place_is form other reads more e f = ap (λ t. let a : Place = record { form = t; reads = reads } in a) e ∙ ap (λ t. let a : Place = record { form = other; reads = t } in a) f

module _ (nodes : List PlacedNode) (clocks : List NodeClock) (net : Net) (proper : AreProper nodes) (flat : IsFlat nodes clocks net) where
  -- an instance place is a place of the net
  place_at : (spot : Spot) → IsSpot nodes spot → slice_get (net_places net) (number nodes spot) ≡ Some (numbered_place nodes spot)
  place_at spot is =
      let a = flat.actors spot is.0 is.1 in
      slice_get-map (actor_place net) net.actors (number nodes spot) ∙ ap (option_map (actor_place net)) a.there
      ∙ ap (λ t. Some t) (place_is (plans.form_of a.actor.kind) (form_at nodes spot) (actor_place net a.actor).reads (map (number nodes) (reads_at nodes spot)) (ap plans.form_of a.does ∙ form_back (spot_form spot is.0) ∙ ap (form_if spot) (sym is.1)) (a.reads ∙ ap (λ o. map (number nodes) (reads_if nodes spot o)) (sym is.1)))

  numbered : AreNumbered (program_places nodes) (number nodes) (net_places net)
  numbered = record {
    closed = λ x is. all_of (IsSpot nodes) (reads_at nodes x) (closed nodes proper x is);
    place = place_at;
  }

  iterates : (kinds : List HostKind) (inputs : List (List ℤ)) → AreIterates (program_places nodes) kinds inputs (kahn kinds inputs nodes)
  iterates kinds inputs = record { first = λ x is. refl; next = λ n x is. refl }

  pub places_iterate : (kinds : List HostKind) (inputs : List (List ℤ)) (n : ℕ) (spot : Spot) → IsSpot nodes spot → list_at (iterate kinds inputs (net_places net) n) (number nodes spot) ≡ kahn kinds inputs nodes n spot
  places_iterate kinds inputs n spot is = named_iterates Spot (program_places nodes) (number nodes) (net_places net) kinds inputs (kahn kinds inputs nodes) n spot numbered (iterates kinds inputs) is

  -- an output is a place of the net, which takes from that of its result
  output_at : (i place : ℕ) → slice_get (results_in (main_of nodes)) i ≡ Some place → slice_get (net_places net) (all_places nodes + i) ≡ Some (record { form = Same; reads = number nodes (at [] place) ∷ [] })
  output_at i place e =
      let a = flat.outputs i place e in
      slice_get-map (actor_place net) net.actors (all_places nodes + i) ∙ ap (option_map (actor_place net)) a.there
      ∙ ap (λ t. Some t) (place_is (plans.form_of a.actor.kind) Same (actor_place net a.actor).reads (number nodes (at [] place) ∷ []) (ap plans.form_of a.kind) a.reads)

  pub outputs_iterate : (kinds : List HostKind) (inputs : List (List ℤ)) (n i place : ℕ) → slice_get (results_in (main_of nodes)) i ≡ Some place →
      list_at (iterate kinds inputs (net_places net) (suc n)) (all_places nodes + i) ≡ kahn kinds inputs nodes n (at [] place)
  outputs_iterate kinds inputs n i place e =
      iterate-at kinds inputs (net_places net) n (all_places nodes + i) (record { form = Same; reads = number nodes (at [] place) ∷ [] }) (output_at i place e)
      ∙ places_iterate kinds inputs n (at [] place) (main_spot nodes proper i place e)

  -- the first places of the net are those of the program
  front_same : (i : ℕ) → i < all_places nodes → slice_get (net_places net) i ≡ slice_get (numbered_places nodes) i
  front_same i l =
      let r = number_reached nodes proper i l in
      ap (slice_get (net_places net)) (sym r.2) ∙ place_at r.0 r.1 ∙ sym (place_there nodes proper r.0 r.1) ∙ ap (slice_get (numbered_places nodes)) r.2

  -- every place of the net reads one of them
  reads_front : (i : ℕ) (p : Place) (k m : ℕ) → slice_get (net_places net) i ≡ Some p → slice_get p.reads k ≡ Some m → m < all_places nodes
  reads_front i p k m e f =
      elim (cases_lt i (all_places nodes)) [
        | inl low ↦
            let r = number_reached nodes proper i low in
            let same : numbered_place nodes r.0 ≡ p = same_Some (numbered_place nodes r.0) p (sym (place_at r.0 r.1) ∙ ap (slice_get (net_places net)) r.2 ∙ e) in
            let read = map_from (number nodes) (reads_at nodes r.0) k m (ap (λ (t : Place). slice_get t.reads k) same ∙ f) in
            subst (λ n. n < all_places nodes) read.2 (number_below nodes proper read.0 (all_at (IsSpot nodes) (reads_at nodes r.0) k read.0 (closed nodes proper r.0 r.1) read.1))
        | inr high ↦
            let within = slice_get_within (net_places net) i p e in
            let j : ℕ = i - all_places nodes in
            let place = get_there (results_in (main_of nodes)) j (omega (arith, within, high, flat.count, length-map net.actors (actor_place net))) in
            let at_i : all_places nodes + j ≡ i = omega (arith, high) in
            let out : Place = record { form = Same; reads = number nodes (at [] place.0) ∷ [] } in
            let same : out ≡ p = same_Some out p (sym (output_at j place.0 place.1) ∙ ap (slice_get (net_places net)) at_i ∙ e) in
            let only : number nodes (at [] place.0) ≡ m = only_one (number nodes (at [] place.0)) k m (ap (λ (t : Place). slice_get t.reads k) same ∙ f) in
            subst (λ n. n < all_places nodes) only (number_below nodes proper (at [] place.0) (main_spot nodes proper j place.0 place.1))
      ]

  need_front : (x y : StreamItem) → Needs (net_places net) x y → y.place < all_places nodes
  need_front x y is = reads_front x.place is.place is.operand y.place is.there is.reads

  need_to : (x y : StreamItem) → x.place < all_places nodes → Needs (net_places net) x y → Needs (numbered_places nodes) x y
  need_to x y low is = record {
    place = is.place;
    there = sym (front_same x.place low) ∙ is.there;
    operand = is.operand;
    within = is.within;
    reads = is.reads;
    counted = is.counted;
    need = is.need;
  }

  need_from : (x y : StreamItem) → Needs (numbered_places nodes) x y → Needs (net_places net) x y
  need_from x y is = record {
    place = is.place;
    there = front_same x.place (omega (arith, slice_get_within (numbered_places nodes) x.place is.place is.there, count_places nodes proper)) ∙ is.there;
    operand = is.operand;
    within = is.within;
    reads = is.reads;
    counted = is.counted;
    need = is.need;
  }

  walk_from : (x : StreamItem) (walk : List StreamItem) (end : StreamItem) → IsWalk (numbered_places nodes) x walk end → IsWalk (net_places net) x walk end
  walk_from x [] end is = need_from x end is
  walk_from x (y ∷ walk) end is = (need_from x y is.0, walk_from y walk end is.1)

  walk_front : (x : StreamItem) (walk : List StreamItem) (end : StreamItem) → IsWalk (net_places net) x walk end → end.place < all_places nodes
  walk_front x [] end is = need_front x end is
  walk_front x (y ∷ walk) end is = walk_front y walk end is.1

  walk_to : (x : StreamItem) (walk : List StreamItem) (end : StreamItem) → x.place < all_places nodes → IsWalk (net_places net) x walk end → IsWalk (numbered_places nodes) x walk end
  walk_to x [] end low is = need_to x end low is
  walk_to x (y ∷ walk) end low is = (need_to x y low is.0, walk_to y walk end (need_front x y is.0) is.1)

  pub causal_net : IsCausal (numbered_places nodes) → IsCausal (net_places net)
  causal_net causal x low reaches = causal x low (reaches.0, walk_to x reaches.0 x (walk_front x reaches.0 x reaches.1) reaches.1)

  pub causal_numbered : IsCausal (net_places net) → IsCausal (numbered_places nodes)
  causal_numbered causal x low reaches = causal x low (reaches.0, walk_from x reaches.0 x reaches.1)
