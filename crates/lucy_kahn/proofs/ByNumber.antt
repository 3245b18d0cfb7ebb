-- By their numbers, instance places are places of lucy_stream.
use Rattle.std.proofs.Common.{ℕ, suc, ◌<◌, ◌≤◌, ◌≡◌, List, [], ◌∷◌, Some, length, map, ap, sym, refl, ◌∙◌, subst, arith}
use Rattle.std.specs.Prelude.{ℤ, slice_get, option_map}
use Rattle.std.proofs.lemmas.Option.{same_Some, slice_get_within, slice_get-map}
use Rattle.lucy_word.proofs.Lists.{all_at}
use Rattle.lucy_host.specs.declared.kind.HostKind.{HostKind}
use Rattle.lucy_stream.specs.Items.{list_at}
use Rattle.lucy_stream.specs.Fronts.{IsFront, AreFronts}
use Rattle.lucy_stream.specs.Forms.{operands}
use Rattle.lucy_stream.specs.Iterates.{Place, iterate}
use Rattle.lucy_stream.specs.Needs.{IsNeed, StreamItem, Needs, IsWalk, IsCausal}
use Rattle.lucy_stream.specs.Names.{Named, AreIterates, AreNumbered}
use Rattle.lucy_stream.proofs.NameLaws.{named_iterates}
use Rattle.lucy_stream.proofs.IterateLaws.{iterate-fronts, iterate-inputs}
use Rattle.lucy_stream.proofs.NeedLaws.{needs_back, no_cycle}
use Rattle.lucy_place.specs.declared.placed.PlacedNode.{PlacedNode}
use Rattle.lucy_place.specs.Proper.{AreProper}
use Rattle.lucy_kahn.specs.Spots.{Spot, IsSpot, form_at, reads_at}
use Rattle.lucy_kahn.specs.Kahn.{kahn}
use Rattle.lucy_kahn.specs.Items.{SpotItem, DependsOn, IsSpotWalk, IsCausalProgram}
use Rattle.lucy_kahn.specs.Numbers.{number, numbered_place, numbered_places}
use Rattle.lucy_kahn.proofs.JoinedLists.{mapped}
use Rattle.lucy_kahn.proofs.Closed.{closed, all_of}
use Rattle.lucy_kahn.proofs.Numbered.{place_there, number_own, number_reached, count_places}

-- the instance places of a program, by themselves
pub named_places : List PlacedNode → Named Spot
named_places nodes = record { IsThere = IsSpot nodes; form = form_at nodes; reads = reads_at nodes }

item_of : List PlacedNode → SpotItem → StreamItem
item_of nodes x = record { place = number nodes x.spot; number = x.number }

module _ (nodes : List PlacedNode) (proper : AreProper nodes) where
  numbered : AreNumbered (named_places nodes) (number nodes) (numbered_places nodes)
  unfolding named_places
  numbered = record {
    closed = λ x is. all_of (IsSpot nodes) (reads_at nodes x) (closed nodes proper x is);
    place = λ x is. place_there nodes proper x is;
  }

  iterates : (kinds : List HostKind) (inputs : List (List ℤ)) → AreIterates (named_places nodes) kinds inputs (kahn kinds inputs nodes)
  unfolding named_places
  iterates kinds inputs = record { first = λ x is. refl; next = λ n x is. refl }

  -- by numbers the iterates are the program's
  pub by_number : (kinds : List HostKind) (inputs : List (List ℤ)) (n : ℕ) (spot : Spot) → IsSpot nodes spot → list_at (iterate kinds inputs (numbered_places nodes) n) (number nodes spot) ≡ kahn kinds inputs nodes n spot
  unfolding named_places
  by_number kinds inputs n spot is = named_iterates Spot (named_places nodes) (number nodes) (numbered_places nodes) kinds inputs (kahn kinds inputs nodes) n spot numbered (iterates kinds inputs) is

  pub kahn_later : (kinds : List HostKind) (inputs : List (List ℤ)) (n m : ℕ) (spot : Spot) → IsSpot nodes spot → n ≤ m → IsFront (kahn kinds inputs nodes n spot) (kahn kinds inputs nodes m spot)
  kahn_later kinds inputs n m spot is l =
      let fronts = iterate-fronts kinds inputs (numbered_places nodes) n m l (number nodes spot) in
      subst (λ xs. IsFront xs (kahn kinds inputs nodes m spot)) (by_number kinds inputs n spot is)
      (subst (λ ys. IsFront (list_at (iterate kinds inputs (numbered_places nodes) n) (number nodes spot)) ys) (by_number kinds inputs m spot is) fronts)

  pub kahn_inputs : (kinds : List HostKind) (inputs more : List (List ℤ)) (n : ℕ) (spot : Spot) → IsSpot nodes spot → AreFronts inputs more → IsFront (kahn kinds inputs nodes n spot) (kahn kinds more nodes n spot)
  kahn_inputs kinds inputs more n spot is l =
      let fronts = iterate-inputs kinds inputs more (numbered_places nodes) n l (number nodes spot) in
      subst (λ xs. IsFront xs (kahn kinds more nodes n spot)) (by_number kinds inputs n spot is)
      (subst (λ ys. IsFront (list_at (iterate kinds inputs (numbered_places nodes) n) (number nodes spot)) ys) (by_number kinds more n spot is) fronts)

  -- dependencies of items, by numbers
  needs_of : (x y : SpotItem) → DependsOn nodes x y → Needs (numbered_places nodes) (item_of nodes x) (item_of nodes y)
  unfolding item_of
  needs_of x y d = record {
    place = numbered_place nodes x.spot;
    there = place_there nodes proper x.spot d.there;
    operand = d.operand;
    within = d.within;
    reads = slice_get-map (number nodes) (reads_at nodes x.spot) d.operand ∙ ap (option_map (number nodes)) d.reads;
    counted = d.counted;
    need = d.need;
  }

  walk_of : (x : SpotItem) (walk : List SpotItem) (end : SpotItem) → IsSpotWalk nodes x walk end → IsWalk (numbered_places nodes) (item_of nodes x) (map (item_of nodes) walk) (item_of nodes end)
  walk_of x [] end d = needs_of x end d
  walk_of x (y ∷ walk) end d = (needs_of x y d.0, walk_of y walk end d.1)

  there_of : (x : SpotItem) (walk : List SpotItem) (end : SpotItem) → IsSpotWalk nodes x walk end → IsSpot nodes x.spot
  there_of x [] end d = d.there
  there_of x (y ∷ walk) end d = d.0.there

  -- and back
  record Depends (s : Spot) (x y : StreamItem) : Type 0 where
    spot : Spot
    is : IsSpot nodes spot
    place : number nodes spot ≡ y.place
    depends : DependsOn nodes (record { spot = s; number = x.number }) (record { spot = spot; number = y.number })

  depends_of : (s : Spot) (x y : StreamItem) → IsSpot nodes s → number nodes s ≡ x.place → Needs (numbered_places nodes) x y → Depends s x y
  depends_of s x y is e need =
      let same : need.place ≡ numbered_place nodes s = same_Some need.place (numbered_place nodes s) (sym need.there ∙ sym (ap (slice_get (numbered_places nodes)) e) ∙ place_there nodes proper s is) in
      let read : slice_get (map (number nodes) (reads_at nodes s)) need.operand ≡ Some y.place = sym (ap (λ (p : Place). slice_get p.reads need.operand) same) ∙ need.reads in
      let to = mapped (number nodes) (slice_get (reads_at nodes s) need.operand) y.place (sym (slice_get-map (number nodes) (reads_at nodes s) need.operand) ∙ read) in
      record {
        spot = to.0;
        is = all_at (IsSpot nodes) (reads_at nodes s) need.operand to.0 (closed nodes proper s is) to.1;
        place = to.2;
        depends = record {
          there = is;
          operand = need.operand;
          within = subst (λ (p : Place). need.operand < operands p.form) same need.within;
          reads = to.1;
          counted = need.counted;
          need = subst (λ (p : Place). IsNeed p.form x.number need.operand y.number) same need.need;
        };
      }

  record Walks (s : Spot) (x end : StreamItem) : Type 0 where
    walk : List SpotItem
    spot : Spot
    is : IsSpot nodes spot
    place : number nodes spot ≡ end.place
    leads : IsSpotWalk nodes (record { spot = s; number = x.number }) walk (record { spot = spot; number = end.number })

  walks_of : (s : Spot) (x : StreamItem) (walk : List StreamItem) (end : StreamItem) → IsSpot nodes s → number nodes s ≡ x.place → IsWalk (numbered_places nodes) x walk end → Walks s x end
  walks_of s x [] end is e need =
      let d = depends_of s x end is e need in
      record { walk = []; spot = d.spot; is = d.is; place = d.place; leads = d.depends }
  walks_of s x (y ∷ walk) end is e need =
      let d = depends_of s x y is e need.0 in
      let w = walks_of d.spot y walk end d.is d.place need.1 in
      record { walk = record { spot = d.spot; number = y.number } ∷ w.walk; spot = w.spot; is = w.is; place = w.place; leads = (d.depends, w.leads) }

  place_of_walk : (x : StreamItem) (walk : List StreamItem) (end : StreamItem) → IsWalk (numbered_places nodes) x walk end → (place : Place) × (slice_get (numbered_places nodes) x.place ≡ Some place)
  place_of_walk x [] end need = (need.place, need.there)
  place_of_walk x (y ∷ walk) end need = (need.0.place, need.0.there)

  pub causal_places : IsCausalProgram nodes → IsCausal (numbered_places nodes)
  causal_places causal x low reaches =
      let p = place_of_walk x reaches.0 x reaches.1 in
      let s = number_reached nodes proper x.place (omega (arith, slice_get_within (numbered_places nodes) x.place p.0 p.1, count_places nodes proper)) in
      let w = walks_of s.0 x reaches.0 x s.1 s.2 reaches.1 in
      let same : w.spot ≡ s.0 = number_own nodes proper w.spot s.0 w.is s.1 (w.place ∙ sym s.2) in
      causal (record { spot = s.0; number = x.number }) w.walk low
      (subst (λ t. IsSpotWalk nodes (record { spot = s.0; number = x.number }) w.walk (record { spot = t; number = x.number })) same w.leads)

  pub causal_program : IsCausal (numbered_places nodes) → IsCausalProgram nodes
  unfolding item_of
  causal_program causal x walk low leads = causal (item_of nodes x) low (map (item_of nodes) walk, walk_of x walk x leads)

  pub needs_there : (kinds : List HostKind) (inputs : List (List ℤ)) (n : ℕ) (x y : SpotItem) → 1 ≤ x.number → DependsOn nodes x y → x.number ≤ length (kahn kinds inputs nodes (suc n) x.spot) →
      y.number ≤ length (kahn kinds inputs nodes n y.spot)
  unfolding item_of
  needs_there kinds inputs n x y low d l =
      let y_is : IsSpot nodes y.spot = all_at (IsSpot nodes) (reads_at nodes x.spot) d.operand y.spot (closed nodes proper x.spot d.there) d.reads in
      let mine : x.number ≤ length (list_at (iterate kinds inputs (numbered_places nodes) (suc n)) (number nodes x.spot)) =
      subst (λ xs. x.number ≤ length xs) (sym (by_number kinds inputs (suc n) x.spot d.there)) l in
      subst (λ xs. y.number ≤ length xs) (by_number kinds inputs n y.spot y_is)
      (needs_back kinds inputs (numbered_places nodes) n (item_of nodes x) (item_of nodes y) low (needs_of x y d) mine)

  pub no_cycle_there : (kinds : List HostKind) (inputs : List (List ℤ)) (n : ℕ) (x : SpotItem) (walk : List SpotItem) → 1 ≤ x.number → x.number ≤ length (kahn kinds inputs nodes n x.spot) → IsSpotWalk nodes x walk x → ⊥
  unfolding item_of
  no_cycle_there kinds inputs n x walk low l leads =
      let is : IsSpot nodes x.spot = there_of x walk x leads in
      let mine : x.number ≤ length (list_at (iterate kinds inputs (numbered_places nodes) n) (number nodes x.spot)) = subst (λ xs. x.number ≤ length xs) (sym (by_number kinds inputs n x.spot is)) l in
      no_cycle kinds inputs (numbered_places nodes) n (item_of nodes x) low mine (map (item_of nodes) walk, walk_of x walk x leads)
