-- What the flat net of a program is up to a horizon: which inputs it wants, which operators it knows, which actors give, and
-- what its outputs take.
use Rattle.std.proofs.Common.{ℕ, ◌+◌, ◌-◌, ◌*◌, ◌<◌, ◌≤◌, ◌≡◌, List, [], ◌∷◌, Some, length, map, take, ap, sym, ◌∙◌, subst, inl, inr, arith}
use Rattle.std.specs.Prelude.{ℤ, slice_get, slice_index_or}
use Rattle.std.proofs.lemmas.Bool.{cases_lt}
use Rattle.std.proofs.lemmas.Option.{same_Some, slice_get_within, slice_get-map}
use Rattle.lucy_word.specs.Bits.{Bits, ones_to}
use Rattle.lucy_word.specs.Always.{always}
use Rattle.lucy_word.proofs.OnLaws.{always_ticks, always_count}
use Rattle.lucy_word.proofs.IndexLaws.{ones_to-same}
use Rattle.lucy_word.proofs.SamplingLaws.{ones_to-on}
use Rattle.lucy_host.specs.declared.kind.HostKind.{HostKind}
use Rattle.lucy_host.specs.Operators.{Operator}
use Rattle.lucy_host.proofs.Elements.{get_there}
use Rattle.lucy_stream.specs.Items.{list_at}
use Rattle.lucy_stream.specs.Iterates.{iterate}
use Rattle.lucy_stream.specs.Plans.{Task, HasInput, GiveBelow, IsRunnable, kahn_list}
use Rattle.lucy_place.specs.declared.placed.PlacedNode.{PlacedNode}
use Rattle.lucy_place.specs.declared.entry.PlaceKind.{PlaceKind}
use Rattle.lucy_place.specs.declared.entry.PlaceKind.TheVariants as place_kind
use Rattle.lucy_place.specs.Proper.{IsProperKind, AreProper, HaveOperators}
use Rattle.lucy_clock.specs.declared.node_clock.NodeClock.{NodeClock}
use Rattle.lucy_net.specs.declared.kind.ActorKind.TheVariants.{Output}
use Rattle.lucy_net.specs.declared.net.Actor.{Actor}
use Rattle.lucy_net.specs.declared.net.Net.{Net}
use Rattle.lucy_net.specs.Plans.{form_of, task_of, giver, plan}
use Rattle.lucy_net.specs.Proper.{IsSupplied}
use Rattle.lucy_net.specs.States.{GivesNone, KnowsOperator}
use Rattle.lucy_net.specs.Causal.{net_places}
use Rattle.lucy_net.proofs.NetLaws.{plugged}
use Rattle.lucy_net.proofs.BackLaws.{same_places, quotas, fed}
use Rattle.lucy_net.specs.Orders.{IsSound}
use Rattle.lucy_net.specs.Schedules.{Timetable, events_at}
use Rattle.lucy_core.specs.Seen.{CanMakeCore, IsOutputOf, first_ring}
use Rattle.lucy_kahn.specs.Spots.{Spot, at, main_of, node_at, kind_at, spot_form, results_in}
use Rattle.lucy_kahn.specs.Sizes.{all_places}
use Rattle.lucy_kahn.specs.Numbers.{number}
use Rattle.lucy_kahn.specs.Kahn.{kahn}
use Rattle.lucy_kahn.specs.Horizons.{Suffice}
use Rattle.lucy_kahn.proofs.JoinedLists.{get_range, mapped}
use Rattle.lucy_kahn.proofs.Paths.{low_of, is_at, path_node, proper_at}
use Rattle.lucy_kahn.proofs.Numbered.{number_reached}
use Rattle.lucy_kahn.specs.Turns.{params_in}
use Rattle.lucy_flat.specs.Instances.{IsSpotWord}
use Rattle.lucy_flat.specs.Flat.{actor_of, fires_at, IsFlat}
use Rattle.lucy_flat.proofs.RingWords.{form_back}
use Rattle.lucy_flat.proofs.FlatLaws.{main_spot}
use Rattle.lucy_flat.proofs.MeaningLaws.{places_iterate}
use Rattle.lucy_results.specs.Streams.{main_word, param_words, main_stream}

-- a firing word of main's own instance counts as the word of the place
pub main_counts : (nodes : List PlacedNode) (clocks : List NodeClock) (place t : ℕ) (firing : Bits) → IsSpotWord nodes clocks (at [] place) firing → ones_to firing t ≡ ones_to (main_word nodes clocks place) t
main_counts nodes clocks place t firing is =
    let base : Bits = is.0 in
    let ticks : ones_to base t ≡ t = ones_to-same base always t (λ k l. is.1.1 k l ∙ sym (always_ticks k l)) ∙ always_count t in
    ones_to-on base (main_word nodes clocks place) firing t is.2 ∙ ap (ones_to (main_word nodes clocks place)) ticks

-- a parameter of main is one of the first places
pub record IsParam (nodes : List PlacedNode) (place : ℕ) : Type 0 where
  pub low : 1 ≤ place
  pub high : place ≤ params_in (main_of nodes)

pub main_param : (nodes : List PlacedNode) → AreProper nodes → (place : ℕ) → kind_at nodes (at [] place) ≡ Some place_kind.Param → IsParam nodes place
main_param nodes proper place e =
    let is = is_at (main_of nodes) place place_kind.Param e in
    let own = (proper_at nodes proper [] is.node is.node_is).2 in
    let high : place ≤ is.node.params = subst (IsProperKind is.node place) is.kind_is (own.kinds place is.entry is.stands) in
    record {
      low = (low_of is.node.places place is.entry is.stands).0;
      high = subst (λ k. place ≤ k) (sym (ap params_in is.node_is)) high;
    }

pub param_word : (nodes : List PlacedNode) (clocks : List NodeClock) (i : ℕ) → i < params_in (main_of nodes) → slice_get (param_words nodes clocks) i ≡ Some (main_word nodes clocks (1 + i))
param_word nodes clocks i l = get_range (main_word nodes clocks) 1 (params_in (main_of nodes)) i l

module _ (nodes : List PlacedNode) (clocks : List NodeClock) (proper : AreProper nodes) where
  -- an instance place that gives an input has the items of its firings
  input_there : (inputs : List (List ℤ)) (t : ℕ) → Suffice (param_words nodes clocks) inputs t → (path : List ℕ) (place : ℕ) (kind : PlaceKind) (firing : Bits) → kind_at nodes (at path place) ≡ Some kind →
      IsSpotWord nodes clocks (fires_at (at path place) kind) firing → HasInput inputs (spot_form (at path place) kind) (ones_to firing t)
  input_there inputs t suffice [] place place_kind.Param firing e word =
      let param = main_param nodes proper place e in
      let low = param.low in
      let high = param.high in
      let back : 1 + (place - 1) ≡ place = omega arith in
      let some : slice_get (param_words nodes clocks) (place - 1) ≡ Some (main_word nodes clocks place) =
      param_word nodes clocks (place - 1) (omega arith) ∙ ap (λ p. Some (main_word nodes clocks p)) back in
      let enough : ones_to (main_word nodes clocks place) t ≤ length (list_at inputs (place - 1)) = suffice (place - 1) (main_word nodes clocks place) some in
      omega (arith, enough, main_counts nodes clocks place t firing word)
  input_there inputs t suffice (call ∷ path) place place_kind.Param firing e word = tt
  input_there inputs t suffice path place (place_kind.Defined q) firing e word = tt
  input_there inputs t suffice path place (place_kind.Lit l) firing e word = tt
  input_there inputs t suffice path place (place_kind.Op op args) firing e word = tt
  input_there inputs t suffice path place (place_kind.Host op a b) firing e word = tt
  input_there inputs t suffice path place (place_kind.When q p) firing e word = tt
  input_there inputs t suffice path place (place_kind.Merge p a b) firing e word = tt
  input_there inputs t suffice path place (place_kind.Fby l q) firing e word = tt
  input_there inputs t suffice path place (place_kind.Buffer k q) firing e word = tt
  input_there inputs t suffice path place (place_kind.Result c j) firing e word = tt

  -- an instance place knows its operator
  operator_there : (count : ℕ) → HaveOperators count nodes → (path : List ℕ) (place : ℕ) (kind : PlaceKind) → kind_at nodes (at path place) ≡ Some kind → KnowsOperator (actor_of (spot_form (at path place) kind)) count
  operator_there count have path place (place_kind.Host op a b) e =
      let is = is_at (node_at nodes path) place (place_kind.Host op a b) e in
      let node = path_node nodes path is.node is.node_is in
      have node.index is.node place op a b node.found (is.entry, is.stands, is.kind_is)
  operator_there count have [] place place_kind.Param e = tt
  operator_there count have (call ∷ path) place place_kind.Param e = tt
  operator_there count have path place (place_kind.Defined q) e = tt
  operator_there count have path place (place_kind.Lit l) e = tt
  operator_there count have path place (place_kind.Op op args) e = tt
  operator_there count have path place (place_kind.When q p) e = tt
  operator_there count have path place (place_kind.Merge p a b) e = tt
  operator_there count have path place (place_kind.Fby l q) e = tt
  operator_there count have path place (place_kind.Buffer k q) e = tt
  operator_there count have path place (place_kind.Result c j) e = tt

  module _ (net : Net) (flat : IsFlat nodes clocks net) where
    -- what holds of the actors of instance places and of the outputs holds of all actors
    pub each_actor : (P : ℕ → Actor → Type 0) →
        ((spot : Spot) (kind : PlaceKind) (a : ℕ) (actor : Actor) → kind_at nodes spot ≡ Some kind → actor.kind ≡ actor_of (spot_form spot kind) → IsSpotWord nodes clocks (fires_at spot kind) actor.firing → P a actor) →
        ((i a : ℕ) (actor : Actor) → actor.kind ≡ Output i → slice_get net.actors a ≡ Some actor → P a actor) →
        (a : ℕ) (actor : Actor) → slice_get net.actors a ≡ Some actor → P a actor
    each_actor P here out a actor e =
        elim (cases_lt a (all_places nodes)) [
          | inl low ↦
              let r = number_reached nodes proper a low in
              let of = flat.actors r.0 r.1.0 r.1.1 in
              let same : of.actor ≡ actor = same_Some of.actor actor (sym of.there ∙ ap (slice_get net.actors) r.2 ∙ e) in
              subst (P a) same (here r.0 r.1.0 a of.actor r.1.1 of.does of.firing)
          | inr high ↦
              let within = slice_get_within net.actors a actor e in
              let i : ℕ = a - all_places nodes in
              let result = get_there (results_in (main_of nodes)) i (omega (arith, within, high, flat.count)) in
              let of = flat.outputs i result.0 result.1 in
              let number : all_places nodes + i ≡ a = omega (arith, high) in
              let same : of.actor ≡ actor = same_Some of.actor actor (sym of.there ∙ ap (slice_get net.actors) number ∙ e) in
              out i a actor (sym (ap (λ (x : Actor). x.kind) same) ∙ of.kind) e
        ]

    pub supplied : (inputs : List (List ℤ)) (t : ℕ) → Suffice (param_words nodes clocks) inputs t → IsSupplied inputs net t
    supplied inputs t suffice = each_actor (λ a actor. HasInput inputs (form_of actor.kind) (ones_to actor.firing t))
        (λ spot kind a actor e does firing. subst (λ f. HasInput inputs f (ones_to actor.firing t)) (sym (ap form_of does ∙ form_back (spot_form spot kind))) (input_there inputs t suffice spot.path spot.place kind actor.firing e firing))
        (λ i a actor kind e. subst (λ k. HasInput inputs (form_of k) (ones_to actor.firing t)) (sym kind) tt)

    pub knows : (count : ℕ) → HaveOperators count nodes → (a : ℕ) (actor : Actor) → slice_get net.actors a ≡ Some actor → KnowsOperator actor.kind count
    knows count have = each_actor (λ a actor. KnowsOperator actor.kind count)
        (λ spot kind a actor e does firing. subst (λ k. KnowsOperator k count) (sym does) (operator_there count have spot.path spot.place kind e))
        (λ i a actor kind e. subst (λ k. KnowsOperator k count) (sym kind) tt)

    -- a core can be made of the net
    pub fixed : (schedule : Timetable) (inputs : List (List ℤ)) (operators : List Operator) (t : ℕ) → HaveOperators (length operators) nodes → IsSound net (events_at schedule) →
        Suffice (param_words nodes clocks) inputs t → t ≤ 1048576 → CanMakeCore net schedule inputs operators t
    fixed schedule inputs operators t have sound suffice early =
        record { proper = flat.proper; sound = sound; early = early; supplied = supplied inputs t suffice; known = knows (length operators) have }

    -- outputs give on no ring, and stand behind all others
    output_gives : (a : ℕ) (actor : Actor) → slice_get net.actors a ≡ Some actor → all_places nodes ≤ a → actor.gives ≡ []
    output_gives a actor e high =
        let within = slice_get_within net.actors a actor e in
        let i : ℕ = a - all_places nodes in
        let result = get_there (results_in (main_of nodes)) i (omega (arith, within, high, flat.count)) in
        let of = flat.outputs i result.0 result.1 in
        let number : all_places nodes + i ≡ a = omega (arith, high) in
        let same : of.actor ≡ actor = same_Some of.actor actor (sym of.there ∙ ap (slice_get net.actors) number ∙ e) in
        let kind : actor.kind ≡ Output i = sym (ap (λ (x : Actor). x.kind) same) ∙ of.kind in
        subst (λ k. GivesNone k actor.gives) kind (flat.proper.actors a actor e).gives_none

    pub gives_below : (t : ℕ) → GiveBelow (plan net t) (all_places nodes)
    gives_below t a task e high =
        let from = mapped (task_of t) (slice_get net.actors a) task (sym (slice_get-map (task_of t) net.actors a) ∙ e) in
        ap (λ (x : Task). x.gives) (sym from.2) ∙ output_gives a from.0 from.1 high

    pub runnable : (inputs : List (List ℤ)) (t : ℕ) → Suffice (param_words nodes clocks) inputs t → IsRunnable inputs (plan net t) (all_places nodes) t
    runnable inputs t suffice = record {
      plugged = plugged net t flat.proper;
      fed = fed inputs net t (supplied inputs t suffice);
      give_below = gives_below t;
      quotas = quotas net t;
    }

    -- the ring from which the output of a result takes comes from its place
    pub first_from : (f : ℕ → ℕ) (xs : List ℕ) (x : ℕ) → map f xs ≡ x ∷ [] → f (slice_index_or xs 0 0) ≡ x
    first_from f [] x e = absurd (cc e)
    first_from f (y ∷ ys) x e = cc

    -- what the giver of that ring has in an iterate
    pub ring_iterates : (kinds : List HostKind) (inputs : List (List ℤ)) (t n i place : ℕ) (e : slice_get (results_in (main_of nodes)) i ≡ Some place) →
        kahn_list kinds inputs (plan net t) n (first_ring (flat.outputs i place e).actor) ≡ kahn kinds inputs nodes n (at [] place)
    ring_iterates kinds inputs t n i place e =
        let of = flat.outputs i place e in
        let r : ℕ = first_ring of.actor in
        let from : giver net r ≡ number nodes (at [] place) = first_from (giver net) of.actor.takes (number nodes (at [] place)) of.reads in
        ap (λ ps. list_at (iterate kinds inputs ps n) (giver net r)) (same_places net t)
        ∙ ap (λ k. list_at (iterate kinds inputs (net_places net) n) k) from
        ∙ places_iterate nodes clocks net proper flat kinds inputs n (at [] place) (main_spot nodes proper i place e)

    pub output_of : (i place : ℕ) (e : slice_get (results_in (main_of nodes)) i ≡ Some place) → IsOutputOf net i (all_places nodes + i) (flat.outputs i place e).actor
    output_of i place e = let of = flat.outputs i place e in record { there = of.there; kind = of.kind }

    pub turns_are : (t : ℕ) → all_places nodes * t ≡ t * all_places nodes
    turns_are t = omega arith

    -- what an output takes up to the horizon is the stream of its result
    pub output_stream : (kinds : List HostKind) (inputs : List (List ℤ)) (t i place : ℕ) (e : slice_get (results_in (main_of nodes)) i ≡ Some place) →
        take (ones_to (flat.outputs i place e).actor.firing t) (kahn_list kinds inputs (plan net t) (all_places nodes * t) (first_ring (flat.outputs i place e).actor)) ≡ main_stream kinds inputs nodes clocks t place
    output_stream kinds inputs t i place e =
        let of = flat.outputs i place e in
        ap (λ k. take k (kahn_list kinds inputs (plan net t) (all_places nodes * t) (first_ring of.actor))) (main_counts nodes clocks place t of.actor.firing of.firing)
        ∙ ap (take (ones_to (main_word nodes clocks place) t)) (ring_iterates kinds inputs t (all_places nodes * t) i place e)
        ∙ ap (λ n. take (ones_to (main_word nodes clocks place) t) (kahn kinds inputs nodes n (at [] place))) (turns_are t)
