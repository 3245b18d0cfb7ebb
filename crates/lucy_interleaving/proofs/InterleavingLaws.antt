-- What holds of the states of an accepted program's net.
use Rattle.std.proofs.Common.{ℕ, ◌+◌, ◌-◌, ◌*◌, ◌<◌, ◌≤◌, ◌≡◌, List, [], Option, Some, None, length, map, ap, sym, refl, ◌∙◌, subst, inl, inr, arith}
use Rattle.std.specs.Prelude.{ℤ, slice_get}
use Rattle.std.specs.Option.{option_map}
use Rattle.std.proofs.lemmas.Bool.{cases_lt}
use Rattle.std.proofs.lemmas.List.{length-map, get_or_past}
use Rattle.std.proofs.lemmas.Option.{slice_get-map, get_or_from_slice_get}
use Rattle.lucy_word.proofs.Lists.{only_one}
use Rattle.lucy_host.specs.declared.kind.HostKind.{HostKind}
use Rattle.lucy_host.specs.Operators.{Operator, kinds_of}
use Rattle.lucy_host.proofs.Elements.{get_there}
use Rattle.lucy_stream.specs.Items.{list_at}
use Rattle.lucy_stream.specs.Fronts.{IsFront}
use Rattle.lucy_stream.specs.Iterates.{iterate}
use Rattle.lucy_stream.specs.Runs.{none_done, first_left, IsPossible, IsRun, IsFinished, IsWhole}
use Rattle.lucy_stream.specs.States.{State, start, held, events, IsState}
use Rattle.lucy_stream.specs.Schedules.{events_to}
use Rattle.lucy_stream.specs.Plans.{system, machine, kahn_list, IsPlugged, IsOperand}
use Rattle.lucy_stream.proofs.PlanLaws.{IsWired-plan, IsLocal-plan}
use Rattle.lucy_stream.proofs.StateLaws.{IsState-start, IsState-events, held-most}
use Rattle.lucy_stream.proofs.StuckLaws.{first_left-some, first_left-none}
use Rattle.lucy_stream.proofs.KahnLaws.{kahn_state, kahn_state_took}
use Rattle.lucy_place.specs.declared.placed.PlacedNode.{PlacedNode}
use Rattle.lucy_place.specs.declared.entry.PlaceKind.{PlaceKind}
use Rattle.lucy_place.specs.declared.entry.PlaceKind.TheVariants.{Buffer}
use Rattle.lucy_place.specs.Proper.{AreProper}
use Rattle.lucy_clock.specs.declared.node_clock.NodeClock.{NodeClock}
use Rattle.lucy_net.specs.declared.net.Actor.{Actor}
use Rattle.lucy_net.specs.declared.net.RingSpec.{RingSpec}
use Rattle.lucy_net.specs.declared.net.Net.{Net}
use Rattle.lucy_net.specs.Plans.{giver, taker, plan, net_system}
use Rattle.lucy_net.specs.Causal.{net_places}
use Rattle.lucy_net.specs.Orders.{IsSound}
use Rattle.lucy_net.proofs.WhereLaws.{operand_of}
use Rattle.lucy_net.proofs.NetLaws.{planned, size_here, plugged, to_here, taken_times, ring_cases}
use Rattle.lucy_net.proofs.BackLaws.{same_places}
use Rattle.lucy_net.specs.Schedules.{events_at}
use Rattle.lucy_core.specs.Seen.{machine_on}
use Rattle.lucy_kahn.specs.Spots.{Spot, at, main_of, kind_at, results_in, IsSpot}
use Rattle.lucy_kahn.specs.Sizes.{all_places}
use Rattle.lucy_kahn.specs.Numbers.{number}
use Rattle.lucy_kahn.specs.Kahn.{kahn}
use Rattle.lucy_kahn.specs.Horizons.{Suffice}
use Rattle.lucy_kahn.proofs.Numbered.{number_reached}
use Rattle.lucy_flat.specs.Instances.{index_at}
use Rattle.lucy_flat.specs.Flat.{ring_size, IsFlat}
use Rattle.lucy_flat.specs.Clocked.{AreClocked}
use Rattle.lucy_flat.proofs.FlatLaws.{main_spot}
use Rattle.lucy_flat.proofs.MeaningLaws.{places_iterate}
use Rattle.lucy_flat.proofs.RingWords.{buffer_or}
use Rattle.lucy_flat.proofs.SizeOfNet.{would_be, output_ring_empty}
use Rattle.lucy_results.specs.Streams.{param_words}
use Rattle.lucy_results.proofs.NetLaws.{runnable, turns_are}
use Rattle.lucy_program.specs.declared.accepted.Accepted.{Accepted}
use Rattle.lucy_program.specs.declared.options.Options.{Options}
use Rattle.lucy_program.specs.Accepting.{IsAccepted}
use Rattle.lucy_interleaving.specs.Interleavings.{machine_for, IsSafe, IsFedText}

-- what stands at a place of a list
get_at : (xs : List ℕ) (j r : ℕ) → IsOperand xs j r → slice_get xs j ≡ Some r
get_at xs j r o =
    let x = get_there xs j o.there in
    x.1 ∙ ap Some (sym (get_or_from_slice_get xs j x.0 0 x.1) ∙ o.is)

-- a ring that isn't there has size 0
size_past : (net : Net) (t r : ℕ) → length net.rings ≤ r → (system (plan net t)).size r ≡ 0
size_past net t r l = get_or_past (map (λ (x : RingSpec). x.size) net.rings) r 0 (omega (arith, l, length-map net.rings (λ (x : RingSpec). x.size)))

-- what a ring holds, where its size is known
pub holds : (net : Net) (kinds : List HostKind) (inputs : List (List ℤ)) (t r size : ℕ) (s : State) → IsState (machine kinds inputs (plan net t)) s →
    (system (plan net t)).size r ≡ size → length (held s r) ≤ size + 1
holds net kinds inputs t r size s state e = subst (λ n. length (held s r) ≤ n + 1) e (held-most (machine kinds inputs (plan net t)) s r state)

module _ (nodes : List PlacedNode) (clocks : List NodeClock) (proper : AreProper nodes) (clocked : AreClocked nodes clocks) (net : Net) (flat : IsFlat nodes clocks net) where
  -- the place of a ring among the operands of the actor that takes from it
  operand : (r a : ℕ) (ring : RingSpec) (actor : Actor) → slice_get net.rings r ≡ Some ring → slice_get net.actors a ≡ Some actor → ring.to ≡ a → (j : ℕ) × (slice_get actor.takes j ≡ Some r)
  operand r a ring actor e f to =
      let o = operand_of r actor.takes (taken_times net r a ring actor (flat.proper.actors a actor f) e to) in
      (o.0, get_at actor.takes o.0 r o.1)

  -- the size of the ring from which an instance place takes
  pub place_size : (spot : Spot) (kind : PlaceKind) (r : ℕ) (ring : RingSpec) → kind_at nodes spot ≡ Some kind → slice_get net.rings r ≡ Some ring → ring.to ≡ number nodes spot →
      ring.size ≡ ring_size clocks (index_at nodes spot.path) kind
  place_size spot kind r ring stands e to =
      let a = flat.actors spot kind stands in
      let o = operand r (number nodes spot) ring a.actor e a.there to in
      flat.sizes spot kind a.actor o.0 r ring stands a.there o.1 e

  -- a ring from which no buffer takes has size 0
  pub plain_size : (r : ℕ) (ring : RingSpec) → slice_get net.rings r ≡ Some ring →
      ((spot : Spot) (k q : ℕ) → kind_at nodes spot ≡ Some (Buffer k q) → ring.to ≡ number nodes spot → ⊥) → ring.size ≡ 0
  plain_size r ring e none =
      let is = flat.proper.rings r ring e in
      elim (cases_lt ring.to (all_places nodes)) [
        | inl low ↦
            let p = number_reached nodes proper ring.to low in
            let size = place_size p.0 p.1.0 r ring p.1.1 e (sym p.2) in
            elim (buffer_or clocks (index_at nodes p.0.path) p.1.0) [
              | inl b ↦ absurd (none p.0 b.0 b.1 (p.1.1 ∙ ap Some b.2) (sym p.2))
              | inr plain ↦ size ∙ plain.1
            ]
        | inr high ↦
            let i : ℕ = ring.to - all_places nodes in
            let to : ring.to ≡ all_places nodes + i = omega (arith, high) in
            let o = operand r ring.to ring is.taker e is.takes_here refl in
            output_ring_empty nodes clocks proper clocked net (would_be nodes clocks net flat) i o.0 r is.taker ring (ap (slice_get net.actors) (sym to) ∙ is.takes_here) o.1 e to
      ]

  module _ (kinds : List HostKind) (inputs : List (List ℤ)) (t : ℕ) (s : State) (state : IsState (machine kinds inputs (plan net t)) s) where
    buffer_holds : (spot : Spot) (k q r : ℕ) → kind_at nodes spot ≡ Some (Buffer k q) → r < length net.rings → taker net r ≡ number nodes spot →
        length (held s r) ≤ ring_size clocks (index_at nodes spot.path) (Buffer k q) + 1
    buffer_holds spot k q r stands l to =
        let ring = get_there net.rings r l in
        let size = place_size spot (Buffer k q) r ring.0 stands ring.1 (sym (to_here net r ring.0 ring.1) ∙ to) in
        holds net kinds inputs t r (ring_size clocks (index_at nodes spot.path) (Buffer k q)) s state (size_here net t r ring.0 ring.1 ∙ size)

    other_holds : (r : ℕ) → ((spot : Spot) (k q : ℕ) → kind_at nodes spot ≡ Some (Buffer k q) → taker net r ≡ number nodes spot → ⊥) → length (held s r) ≤ 1
    other_holds r none = elim (ring_cases net r) [
      | inl ring ↦
          let size = plain_size r ring.0 ring.1 (λ spot k q stands to. none spot k q stands (to_here net r ring.0 ring.1 ∙ to)) in
          holds net kinds inputs t r 0 s state (size_here net t r ring.0 ring.1 ∙ size)
      | inr past ↦ holds net kinds inputs t r 0 s state (size_past net t r past)
    ]

    module _ (suffice : Suffice (param_words nodes clocks) inputs t) (order : List ℕ) (whole : IsWhole (system (plan net t)) order) where
      -- the list of a ring's giver is the stream of its instance place
      given_list : (spot : Spot) (r : ℕ) → IsSpot nodes spot → giver net r ≡ number nodes spot → kahn_list kinds inputs (plan net t) (all_places nodes * t) r ≡ kahn kinds inputs nodes (t * all_places nodes) spot
      given_list spot r is from =
          ap (λ ps. list_at (iterate kinds inputs ps (all_places nodes * t)) (giver net r)) (same_places net t)
          ∙ ap (λ k. list_at (iterate kinds inputs (net_places net) (all_places nodes * t)) k) from
          ∙ places_iterate nodes clocks net proper flat kinds inputs (all_places nodes * t) spot is
          ∙ ap (λ n. kahn kinds inputs nodes n spot) (turns_are nodes clocks proper net flat t)

      place_gave : (spot : Spot) (r : ℕ) → IsSpot nodes spot → giver net r ≡ number nodes spot → IsFront (s.gave r) (kahn kinds inputs nodes (t * all_places nodes) spot)
      place_gave spot r is from = subst (IsFront (s.gave r)) (given_list spot r is from)
          (kahn_state kinds inputs (plan net t) (all_places nodes) t order s (runnable nodes clocks proper net flat inputs t suffice) whole state r)

      -- an output takes from the actor of its place
      output_from : (i place r : ℕ) → slice_get (results_in (main_of nodes)) i ≡ Some place → r < length net.rings → taker net r ≡ all_places nodes + i → giver net r ≡ number nodes (at [] place)
      output_from i place r e l to =
          let ring = get_there net.rings r l in
          let out = flat.outputs i place e in
          let o = operand r (all_places nodes + i) ring.0 out.actor ring.1 out.there (sym (to_here net r ring.0 ring.1) ∙ to) in
          sym (only_one (number nodes (at [] place)) o.0 (giver net r)
          (ap (λ xs. slice_get xs o.0) (sym out.reads) ∙ slice_get-map (giver net) out.actor.takes o.0 ∙ ap (option_map (giver net)) o.1))

      result_took : (i place r : ℕ) → slice_get (results_in (main_of nodes)) i ≡ Some place → r < length net.rings → taker net r ≡ all_places nodes + i →
          IsFront (s.took r) (kahn kinds inputs nodes (t * all_places nodes) (at [] place))
      result_took i place r e l to = subst (IsFront (s.took r)) (given_list (at [] place) r (main_spot nodes proper i place e) (output_from i place r e l to))
          (kahn_state_took kinds inputs (plan net t) (all_places nodes) t order s (runnable nodes clocks proper net flat inputs t suffice) whole state r)

      -- the first event of the order that isn't done is possible
      next_by : (o : Option ℕ) → first_left s.done order ≡ o → (IsFinished (system (plan net t)) s.done → ⊥) → (a : ℕ) × IsPossible (system (plan net t)) s.done a
      next_by (Some a) e left = (a, first_left-some (system (plan net t)) s.done order a (IsWired-plan (plan net t) (plugged net t flat.proper)) whole e)
      next_by None e left = absurd (left (first_left-none (system (plan net t)) s.done order (IsWired-plan (plan net t) (plugged net t flat.proper)) whole state.within.listed e))

-- what acceptance gives
abbrev pub AreAcceptedProper : Type 0
AreAcceptedProper = (ops : List Operator) (o : Options) (text : List ℕ) (a : Accepted) → IsAccepted ops o text a → AreProper a.placed.nodes

abbrev pub AreAcceptedClocked : Type 0
AreAcceptedClocked = (ops : List Operator) (o : Options) (text : List ℕ) (a : Accepted) → IsAccepted ops o text a → AreClocked a.placed.nodes a.clocks.items

-- every state is safe
pub states_safe : AreAcceptedProper → AreAcceptedClocked → (ops : List Operator) (o : Options) (text : List ℕ) (a : Accepted) (inputs : List (List ℤ)) (t : ℕ) (s : State) →
    IsFedText ops o text a inputs t → IsState (machine_for (kinds_of ops) a inputs t) s → IsSafe (kinds_of ops) a inputs t s
unfolding machine_on
states_safe proper_of clocked_of ops o text a inputs t s fed state =
    let nodes : List PlacedNode = a.placed.nodes in
    let clocks : List NodeClock = a.clocks.items in
    let kinds : List HostKind = kinds_of ops in
    let proper : AreProper nodes = proper_of ops o text a fed.accepted in
    let clocked : AreClocked nodes clocks = clocked_of ops o text a fed.accepted in
    let flat : IsFlat nodes clocks a.net = fed.accepted.net.flat.flat in
    let order : List ℕ = events_to (events_at a.schedule) t in
    let sound : IsSound a.net (events_at a.schedule) = fed.accepted.schedule.sound in
    let whole : IsWhole (system (plan a.net t)) order = subst (λ sys. IsWhole sys order) (sym (planned a.net t)) (sound t) in
    let goes_on : (IsFinished (system (plan a.net t)) s.done → ⊥) → (actor : ℕ) × IsPossible (system (plan a.net t)) s.done actor =
    λ left. next_by nodes clocks proper clocked a.net flat kinds inputs t s state fed.suffice order whole (first_left s.done order) refl left in
    record {
      buffers = λ spot k r is l to. buffer_holds nodes clocks proper clocked a.net flat kinds inputs t s state spot k is.0 r is.1 l to;
      others = λ r none. other_holds nodes clocks proper clocked a.net flat kinds inputs t s state r (λ spot k q stands to. none spot k (q, stands) to);
      places = λ spot r is from. place_gave nodes clocks proper clocked a.net flat kinds inputs t s state fed.suffice order whole spot r is from;
      results = λ i place r e l to. result_took nodes clocks proper clocked a.net flat kinds inputs t s state fed.suffice order whole i place r e l to;
      goes_on = subst (λ sys. (IsFinished sys s.done → ⊥) → (actor : ℕ) × IsPossible sys s.done actor) (planned a.net t) goes_on;
    }

-- and every run leads to one
pub runs_safe : AreAcceptedProper → AreAcceptedClocked → (ops : List Operator) (o : Options) (text : List ℕ) (a : Accepted) (inputs : List (List ℤ)) (t : ℕ) (picks : List ℕ) →
    IsFedText ops o text a inputs t → IsRun (net_system a.net t) none_done picks →
    IsSafe (kinds_of ops) a inputs t (events (machine_for (kinds_of ops) a inputs t) start picks)
unfolding machine_on
runs_safe proper_of clocked_of ops o text a inputs t picks fed run =
    let m = machine (kinds_of ops) inputs (plan a.net t) in
    let plugs : IsPlugged (plan a.net t) = plugged a.net t fed.accepted.net.flat.flat.proper in
    states_safe proper_of clocked_of ops o text a inputs t (events m start picks) fed
    (IsState-events m start picks (IsWired-plan (plan a.net t) plugs) (IsLocal-plan (kinds_of ops) inputs (plan a.net t) plugs)
    (subst (λ sys. IsRun sys none_done picks) (sym (planned a.net t)) run) (IsState-start m))
