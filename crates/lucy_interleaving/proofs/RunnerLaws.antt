-- A runner of an accepted program's net is safe, and so are its rings.
use Rattle.std.proofs.Common.{ℕ, ◌+◌, ◌≡◌, List, [], ◌∷◌, ◌++◌, length, drop, ap, sym, refl, ◌∙◌, subst, arith}
use Rattle.std.specs.Prelude.{ℤ, Some, slice_get}
use Rattle.std.proofs.lemmas.List.{take-append-drop}
use Rattle.std.proofs.lemmas.Option.{slice_get_within}
use Rattle.lucy_host.specs.declared.kind.HostKind.{HostKind}
use Rattle.lucy_host.specs.Operators.{Operator, kinds_of}
use Rattle.lucy_host.proofs.Elements.{get_there}
use Rattle.lucy_stream.specs.States.{State, held, IsState}
use Rattle.lucy_stream.specs.Plans.{machine}
use Rattle.lucy_stream.proofs.FrontLaws.{IsFront-cut}
use Rattle.lucy_place.specs.declared.placed.PlacedNode.{PlacedNode}
use Rattle.lucy_place.specs.declared.entry.PlaceKind.TheVariants.{Buffer}
use Rattle.lucy_place.specs.Proper.{AreProper}
use Rattle.lucy_clock.specs.declared.node_clock.NodeClock.{NodeClock}
use Rattle.lucy_net.specs.declared.net.RingSpec.{RingSpec}
use Rattle.lucy_net.specs.declared.net.Net.{Net}
use Rattle.lucy_net.specs.Plans.{plan}
use Rattle.lucy_net.proofs.NetLaws.{size_here, to_here}
use Rattle.lucy_net.specs.Schedules.{Timetable}
use Rattle.lucy_core.specs.Seen.{Seen, machine_on, machine_of, state_of, first_seen, after_picks}
use Rattle.lucy_runner.specs.Views.{RingView, RunnerView, AreRingsIn, inputs_for, first_runner}
use Rattle.lucy_runner.specs.Rounds.{IsRoundTo}
use Rattle.lucy_kahn.specs.Spots.{main_of}
use Rattle.lucy_kahn.specs.Turns.{params_in}
use Rattle.lucy_flat.specs.Flat.{IsFlat}
use Rattle.lucy_flat.specs.Clocked.{AreClocked}
use Rattle.lucy_results.proofs.InputLaws.{inputs_same}
use Rattle.lucy_program.specs.declared.accepted.Accepted.{Accepted}
use Rattle.lucy_interleaving.specs.Interleavings.{IsFedText}
use Rattle.lucy_interleaving.specs.Runners.{HasSafeRings, IsSafeRunner, after_rounds, IsMadeFor, IsSafeIfMade, IsSafeOnItsInputs}
use Rattle.lucy_interleaving.proofs.InterleavingLaws.{holds, place_size, plain_size, AreAcceptedProper, AreAcceptedClocked, states_safe}

-- a ring of a runner with what the net says of it
record IsRingAt (net : Net) (s : State) (r : ℕ) (ring : RingView) : Type 0 where
  pub spec : RingSpec
  pub here : slice_get net.rings r ≡ Some spec
  pub items : ring.items ≡ held s r
  pub slots : ring.slots ≡ spec.size + 1

ring_there : (net : Net) (runner : RunnerView) (r : ℕ) (ring : RingView) → runner.seen.net ≡ net → AreRingsIn runner.seen runner.rings → slice_get runner.rings r ≡ Some ring →
    IsRingAt net (state_of runner.seen) r ring
ring_there net runner r ring same rings e =
    let (spec, here) = get_there runner.seen.net.rings r (omega (arith, rings.count, slice_get_within runner.rings r ring e)) in
    let is = rings.each r spec ring here e in
    record {
      spec = spec;
      here = ap (λ (n : Net). slice_get n.rings r) (sym same) ∙ here;
      items = ap (λ (x : RingView). x.items) is;
      slots = ap (λ (x : RingView). x.slots) is;
    }

-- its rings, in a state of the net
rings_safe : (a : Accepted) (runner : RunnerView) (kinds : List HostKind) → AreProper a.placed.nodes → AreClocked a.placed.nodes a.clocks.items → IsFlat a.placed.nodes a.clocks.items a.net →
    runner.seen.net ≡ a.net → IsState (machine kinds runner.seen.inputs (plan a.net runner.seen.instants)) (state_of runner.seen) → AreRingsIn runner.seen runner.rings → HasSafeRings a runner
rings_safe a runner kinds proper clocked flat same state rings =
    let nodes : List PlacedNode = a.placed.nodes in
    let clocks : List NodeClock = a.clocks.items in
    let s : State = state_of runner.seen in
    let at : (r : ℕ) (ring : RingView) → slice_get runner.rings r ≡ Some ring → IsRingAt a.net s r ring = λ r ring e. ring_there a.net runner r ring same rings e in
    record {
      count = rings.count ∙ ap (λ (n : Net). length n.rings) same;
      buffers = λ spot buffer r ring is to e.
          let x : IsRingAt a.net s r ring = at r ring e in
          x.slots ∙ ap (λ n. n + 1) (place_size nodes clocks proper clocked a.net flat spot (Buffer buffer is.0) r x.spec is.1 x.here (sym (to_here a.net r x.spec x.here) ∙ to));
      others = λ r ring none e.
          let x : IsRingAt a.net s r ring = at r ring e in
          x.slots ∙ ap (λ n. n + 1) (plain_size nodes clocks proper clocked a.net flat r x.spec x.here (λ spot k q stands to. none spot k (q, stands) (to_here a.net r x.spec x.here ∙ to)));
      within = λ r ring e.
          let x : IsRingAt a.net s r ring = at r ring e in
          let most = holds a.net kinds runner.seen.inputs runner.seen.instants r x.spec.size s state (size_here a.net runner.seen.instants r x.spec x.here) in
          omega (arith, most, ap length x.items, x.slots);
      holds = λ r ring e.
          let x : IsRingAt a.net s r ring = at r ring e in
          sym (ap (λ xs. s.took r ++ xs) x.items ∙ ap (λ xs. xs ++ drop (length (s.took r)) (s.gave r)) (IsFront-cut (s.took r) (s.gave r) (state.fronts r)) ∙ take-append-drop (length (s.took r)) (s.gave r));
    }

-- a runner of a program's net is safe, by the inputs that it has
pub on_its_inputs : AreAcceptedProper → AreAcceptedClocked → (runner : RunnerView) → IsState (machine_of runner.seen) (state_of runner.seen) → AreRingsIn runner.seen runner.rings → IsSafeOnItsInputs runner
unfolding machine_on
on_its_inputs proper_of clocked_of runner state rings ops o text a fed net kinds =
    let seen : Seen = runner.seen in
    let s : State = state_of seen in
    let on_net : IsState (machine (kinds_of seen.operators) seen.inputs (plan a.net seen.instants)) s =
    subst (λ (n : Net). IsState (machine (kinds_of seen.operators) seen.inputs (plan n seen.instants)) s) net state in
    let here : IsState (machine (kinds_of ops) seen.inputs (plan a.net seen.instants)) s =
    subst (λ ks. IsState (machine ks seen.inputs (plan a.net seen.instants)) s) kinds on_net in
    record {
      rings = rings_safe a runner (kinds_of ops) (proper_of ops o text a fed.accepted) (clocked_of ops o text a fed.accepted) fed.accepted.net.flat.flat net here rings;
      state = states_safe proper_of clocked_of ops o text a seen.inputs seen.instants s fed here;
    }

-- rounds change nothing but the counts
rounds_keep : (seen : Seen) (rounds : List (List ℕ)) → (done : List ℕ) × (after_rounds seen rounds ≡ record seen { done = done })
rounds_keep seen [] = (seen.done, refl)
rounds_keep seen (picks ∷ rounds) = rounds_keep (after_picks seen picks) rounds

-- so it is by the inputs of which it was made
pub if_made : AreAcceptedProper → (runner : RunnerView) → IsSafeOnItsInputs runner → IsSafeIfMade runner
if_made proper_of runner safe ops o text a inputs horizon fed made =
    let first : Seen = first_seen a.net made.schedule (inputs_for a.net inputs) ops horizon in
    let (done, kept) = rounds_keep first made.rounds in
    let is : runner.seen ≡ record first { done = done } = made.moved ∙ kept in
    let same : runner.seen.inputs ≡ inputs = ap (λ (x : Seen). x.inputs) is
    ∙ inputs_same a.placed.nodes a.clocks.items (proper_of ops o text a fed.accepted) a.net fed.accepted.net.flat.flat inputs made.params in
    let instants : runner.seen.instants ≡ horizon = ap (λ (x : Seen). x.instants) is in
    let fed_here : IsFedText ops o text a runner.seen.inputs runner.seen.instants =
    subst (λ xs. IsFedText ops o text a xs runner.seen.instants) (sym same) (subst (λ t. IsFedText ops o text a inputs t) (sym instants) fed) in
    subst (λ t. IsSafeRunner (kinds_of ops) a inputs t runner) instants
    (subst (λ xs. IsSafeRunner (kinds_of ops) a xs runner.seen.instants runner) same
    (safe ops o text a fed_here (ap (λ (x : Seen). x.net) is) (ap (λ (x : Seen). kinds_of x.operators) is)))

-- what `Runner::new` makes of what `Core::new` makes is such a runner
pub made_anew : (ops : List Operator) (a : Accepted) (inputs : List (List ℤ)) (horizon : ℕ) (schedule : Timetable) (core : Seen) (runner : RunnerView) → params_in (main_of a.placed.nodes) ≡ length inputs →
    core ≡ first_seen a.net schedule inputs ops horizon → runner ≡ first_runner core runner.crew → IsMadeFor ops a inputs horizon runner
made_anew ops a inputs horizon schedule core runner params e f = record {
  schedule = schedule;
  params = params;
  rounds = [];
  moved = ap (λ (v : RunnerView). v.seen) f ∙ ap (λ (s : Seen). (first_runner s runner.crew).seen) e;
}

after_last : (seen : Seen) (rounds : List (List ℕ)) (picks : List ℕ) → after_rounds seen (rounds ++ picks ∷ []) ≡ after_picks (after_rounds seen rounds) picks
after_last seen [] picks = refl
after_last seen (first ∷ rounds) picks = after_last (after_picks seen first) rounds picks

-- and what a round leaves of one is one
pub moved_on : (ops : List Operator) (a : Accepted) (inputs : List (List ℤ)) (horizon moves : ℕ) (before after : RunnerView) → IsRoundTo before.seen after.seen moves → IsMadeFor ops a inputs horizon before →
    IsMadeFor ops a inputs horizon after
moved_on ops a inputs horizon moves before after round made =
    let first : Seen = first_seen a.net made.schedule (inputs_for a.net inputs) ops horizon in
    record {
      schedule = made.schedule;
      params = made.params;
      rounds = made.rounds ++ round.picks ∷ [];
      moved = round.is ∙ ap (λ (s : Seen). after_picks s round.picks) made.moved ∙ sym (after_last first made.rounds round.picks);
    }
