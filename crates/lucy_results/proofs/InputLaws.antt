-- The inputs of a program's flat net are main's parameters.
use Rattle.std.proofs.Common.{ℕ, suc, zero, ◌<◌, ◌≤◌, ◌≡◌, List, [], ◌∷◌, Option, Some, None, length, ap, sym, refl, ◌∙◌, subst, arith, cond}
use Rattle.std.specs.Prelude.{ℤ, slice_get}
use Rattle.std.proofs.lemmas.List.FromFn.{fill_by_all}
use Rattle.std.proofs.lemmas.Option.{same_Some}
use Rattle.lucy_stream.specs.Items.{list_at}
use Rattle.lucy_place.specs.declared.placed.PlacedNode.{PlacedNode}
use Rattle.lucy_place.specs.declared.entry.PlaceKind.{PlaceKind}
use Rattle.lucy_place.specs.declared.entry.PlaceKind.TheVariants as place_kind
use Rattle.lucy_place.specs.Proper.{IsProperKind, AreProper}
use Rattle.lucy_place.proofs.NodeLaws.{only_param}
use Rattle.lucy_clock.specs.declared.node_clock.NodeClock.{NodeClock}
use Rattle.lucy_net.specs.declared.kind.ActorKind.TheVariants as actor_kind
use Rattle.lucy_net.specs.declared.net.Actor.{Actor}
use Rattle.lucy_net.specs.declared.net.Net.{Net}
use Rattle.lucy_kahn.specs.Spots.{Spot, at, main_of, kind_at, spot_form}
use Rattle.lucy_kahn.proofs.Parts.{kind_in}
use Rattle.lucy_kahn.proofs.Paths.{is_at, kind_there, proper_at}
use Rattle.lucy_kahn.specs.Turns.{params_in}
use Rattle.lucy_flat.specs.Flat.{actor_of, IsFlat}
use Rattle.lucy_runner.specs.Views.{after_input, input_count, input_for, inputs_for}
use Rattle.lucy_runner.proofs.InputLaws.{read_here, counted_here}
use Rattle.lucy_results.proofs.NetLaws.{main_param, each_actor}

-- the first places of main are its parameters
param_is : (nodes : List PlacedNode) → AreProper nodes → (i : ℕ) → i < params_in (main_of nodes) → kind_at nodes (at [] (suc i)) ≡ Some place_kind.Param
param_is nodes proper i low = from_main (main_of nodes) refl low
  where
    from_main : (o : Option PlacedNode) → main_of nodes ≡ o → i < params_in o → kind_in o (suc i) ≡ Some place_kind.Param
    from_main None e l = absurd (omega arith)
    from_main (Some n) e l =
        let own = (proper_at nodes proper [] n e).2 in
        let high : suc i ≤ length n.places = omega (arith, own.params) in
        let kind = kind_there n (suc i) (omega arith, high) in
        let is = is_at (Some n) (suc i) kind.0 kind.1 in
        let node : n ≡ is.node = same_Some n is.node is.node_is in
        let proper_kind : IsProperKind is.node (suc i) is.entry.kind = subst (λ (m : PlacedNode). IsProperKind m (suc i) is.entry.kind) node (own.kinds (suc i) is.entry (subst (λ (m : PlacedNode). slice_get m.places i ≡ Some is.entry) (sym node) is.stands)) in
        let param : is.entry.kind ≡ place_kind.Param = only_param is.node (suc i) is.entry.kind (subst (λ (m : PlacedNode). suc i ≤ m.params) node (omega arith)) proper_kind in
        kind.1 ∙ ap (λ k. Some k) (sym is.kind_is ∙ param)

count_within : (actors : List Actor) (most : ℕ) → ((a : ℕ) (actor : Actor) → slice_get actors a ≡ Some actor → after_input actor.kind ≤ most) → input_count actors ≤ most
count_within [] most each = omega arith
count_within (x ∷ actors) most each =
    let here : after_input x.kind ≤ most = each 0 x refl in
    let rest : input_count actors ≤ most = count_within actors most (λ a actor e. each (suc a) actor e) in
    omega arith

module _ (nodes : List PlacedNode) (clocks : List NodeClock) (proper : AreProper nodes) (net : Net) (flat : IsFlat nodes clocks net) where
  -- the actor of a parameter
  pub param_actor : (i : ℕ) → i < params_in (main_of nodes) → (a : ℕ) × (actor : Actor) × (slice_get net.actors a ≡ Some actor) × (actor.kind ≡ actor_kind.Input i)
  param_actor i low = let of = flat.actors (at [] (suc i)) place_kind.Param (param_is nodes proper i low) in (_, of.actor, of.there, of.does ∙ ap (λ n. actor_kind.Input n) (omega arith))

  kind_within : (spot : Spot) (kind : PlaceKind) → kind_at nodes spot ≡ Some kind → after_input (actor_of (spot_form spot kind)) ≤ params_in (main_of nodes)
  kind_within spot kind e = from_path spot.path spot.place kind e
    where
      from_path : (path : List ℕ) (place : ℕ) (kind : PlaceKind) → kind_at nodes (at path place) ≡ Some kind → after_input (actor_of (spot_form (at path place) kind)) ≤ params_in (main_of nodes)
      from_path [] place place_kind.Param e = let param = main_param nodes proper place e in omega (arith, param.low, param.high)
      from_path (call ∷ path) place place_kind.Param e = omega arith
      from_path path place (place_kind.Defined q) e = omega arith
      from_path path place (place_kind.Lit l) e = omega arith
      from_path path place (place_kind.Op op args) e = omega arith
      from_path path place (place_kind.Host op a b) e = omega arith
      from_path path place (place_kind.When q p) e = omega arith
      from_path path place (place_kind.Merge p a b) e = omega arith
      from_path path place (place_kind.Fby l q) e = omega arith
      from_path path place (place_kind.Buffer k q) e = omega arith
      from_path path place (place_kind.Result c j) e = omega arith

  -- there are as many inputs as parameters
  pub inputs_counted : input_count net.actors ≡ params_in (main_of nodes)
  inputs_counted = both (params_in (main_of nodes)) refl
    where
      within : input_count net.actors ≤ params_in (main_of nodes)
      within = count_within net.actors (params_in (main_of nodes)) (each_actor nodes clocks proper net flat (λ a actor. after_input actor.kind ≤ params_in (main_of nodes))
          (λ spot kind a actor e does firing. subst (λ k. after_input k ≤ params_in (main_of nodes)) (sym does) (kind_within spot kind e))
          (λ i a actor kind e. subst (λ k. after_input k ≤ params_in (main_of nodes)) (sym kind) (omega arith)))

      both : (count : ℕ) → params_in (main_of nodes) ≡ count → input_count net.actors ≡ params_in (main_of nodes)
      both zero e = omega (arith, within, e)
      both (suc n) e =
          let last = param_actor n (omega arith) in
          let l : n < input_count net.actors = counted_here net.actors last.0 n last.1 last.2 last.3 in
          omega (arith, within, e)

  -- and the lists of the net's inputs are those of the parameters
  pub inputs_same : (inputs : List (List ℤ)) → params_in (main_of nodes) ≡ length inputs → inputs_for net inputs ≡ inputs
  inputs_same inputs e =
      sym (fill_by_all (input_for net.actors inputs) inputs (input_count net.actors) [] (sym e ∙ sym inputs_counted)
      (λ k l. let actor = param_actor k (omega (arith, inputs_counted)) in ap (λ b. cond b (list_at inputs k) []) (sym (read_here net.actors actor.0 k actor.1 actor.2 actor.3))))
