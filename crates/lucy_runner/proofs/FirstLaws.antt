-- What was made stands in the state of a core without an event.
use Rattle.std.proofs.Common.{ℕ, suc, zero, ◌+◌, ◌<◌, ◌≡◌, true, eqb, List, [], ◌++◌, map, length, drop, take, ap, sym, refl, ◌∙◌, subst, arith}
use Rattle.std.specs.Prelude.{ℤ, Some, slice_get, slice_index_or, replicate}
use Rattle.std.proofs.lemmas.Bool.{eq-eqb}
use Rattle.std.proofs.lemmas.Option.{slice_get_within}
use Rattle.lucy_word.specs.Bits.{ones_to}
use Rattle.lucy_word.proofs.BitsLaws.{ones_to-none}
use Rattle.lucy_host.specs.declared.kind.HostKind.{HostKind}
use Rattle.lucy_host.specs.Operators.{Operator, kinds_of}
use Rattle.lucy_host.proofs.Elements.{get_there}
use Rattle.lucy_stream.specs.Forms.{operands}
use Rattle.lucy_stream.specs.States.{Machine, State, start, held, IsSame}
use Rattle.lucy_stream.specs.Actors.{StandsAs}
use Rattle.lucy_stream.specs.Plans.{machine}
use Rattle.lucy_stream.proofs.ActorLaws.{each_stands, same_stands}
use Rattle.lucy_stream.proofs.CountedLaws.{none_within, counted_none}
use Rattle.lucy_stream.proofs.StateLaws.{IsState-start}
use Rattle.lucy_net.specs.declared.kind.ActorKind.{ActorKind}
use Rattle.lucy_net.specs.declared.kind.ActorKind.TheVariants.{Input, Lit, Op, Host, When, Merge, Fby, Pass, Output}
use Rattle.lucy_net.specs.declared.net.Actor.{Actor}
use Rattle.lucy_net.specs.declared.net.RingSpec.{RingSpec}
use Rattle.lucy_net.specs.declared.net.Net.{Net}
use Rattle.lucy_net.specs.Plans.{form_of, giver, taker, plan}
use Rattle.lucy_net.specs.Proper.{IsProper}
use Rattle.lucy_net.specs.States.{IsActorState, ReadsInput}
use Rattle.lucy_net.proofs.NetLaws.{from_here, to_here, plugged, usable}
use Rattle.lucy_net.specs.Schedules.{Timetable}
use Rattle.lucy_core.specs.Seen.{Seen, machine_on, order_on, done_of, state_on, machine_of, state_of, CanMakeCore, first_seen}
use Rattle.lucy_core.proofs.SeenLaws.{IsMachineOf, machine_is}
use Rattle.lucy_ring.specs.Views.{GiverView, TakerView}
use Rattle.lucy_core.proofs.CursorLaws.{zero_at}
use Rattle.lucy_core.proofs.MakeLaws.{none_of_each}
use Rattle.lucy_worker.specs.declared.part.Part.{Part}
use Rattle.lucy_worker.specs.Parts.{given_on, taken_on, IsPartAt, done_of as part_done, state_of as part_state}
use Rattle.lucy_runner.specs.declared.place.Place.{Place}
use Rattle.lucy_runner.specs.declared.place.Ends.{Ends}
use Rattle.lucy_runner.specs.Views.{inputs_for}
use Rattle.lucy_runner.specs.Crews.{seen_by, IsJoined}
use Rattle.lucy_runner.specs.Standing.{took_first, carried, TookAsMany, IsStanding}
use Rattle.lucy_runner.specs.Making.{rings_from, rings_to, AreNewEnds, IsBegun, HasEndsOf, AreMade}
use Rattle.lucy_runner.proofs.JoiningLaws.{row_at, row_all, where_at, given_none, taken_none}
use Rattle.lucy_runner.proofs.BegunLaws.{own_state, none_done, none_on, none_out}
use Rattle.lucy_runner.proofs.SetOutLaws.{sets_out, reads_seen, fixed_seen, first_is}

-- the machine of a net, and its state before any event
pub record IsFirstState (net : Net) (inputs : List (List ℤ)) (kinds : List HostKind) (instants : ℕ) (s : State) : Type 0 where
  pub stands : (a : ℕ) (t : State) → t.done a ≡ 0 → ((r : ℕ) → t.gave r ≡ []) → ((r : ℕ) → t.took r ≡ []) → StandsAs (machine kinds inputs (plan net instants)) a t
  pub gave : (r : ℕ) → s.gave r ≡ []
  pub took : (r : ℕ) → s.took r ≡ []

first_state_is : (net : Net) (schedule : Timetable) (inputs : List (List ℤ)) (operators : List Operator) (instants : ℕ) (done : List ℕ) → CanMakeCore net schedule inputs operators instants → ((b : ℕ) → done_of done b ≡ 0) →
    IsFirstState net inputs (kinds_of operators) instants (state_on (machine_on net inputs (kinds_of operators) instants) (order_on schedule instants) done)
unfolding machine_on state_on
first_state_is net schedule inputs operators instants done fixed none =
    let m : Machine = machine (kinds_of operators) inputs (plan net instants) in
    let is : IsMachineOf net m (order_on schedule instants) inputs (kinds_of operators) instants = machine_is net schedule inputs operators instants fixed in
    let same : IsSame (state_on m (order_on schedule instants) done) start = counted_none m (order_on schedule instants) (done_of done) is.wired is.local is.whole none in
    record {
      stands = λ a t d g k. same_stands m start t a is.wired is.local (record { done = d; gave = λ r e. g r; took = λ r e. k r }) (each_stands m start a (IsState-start m));
      gave = same.gave;
      took = same.took;
    }

-- where the part of an actor stands
took_enough : (what : ActorKind) (most took : ℕ) → most ≡ 0 → TookAsMany what most took
took_enough (Output output) most took z = omega arith
took_enough (Input n) most took z = tt
took_enough (Lit value) most took z = tt
took_enough (Op op) most took z = tt
took_enough (Host op) most took z = tt
took_enough (When word) most took z = tt
took_enough (Merge word) most took z = tt
took_enough (Fby first) most took z = tt
took_enough Pass most took z = tt

take_none : (n : ℕ) (xs : List ℤ) → xs ≡ [] → take n xs ≡ []
take_none zero xs e = refl
take_none (suc n) xs e = ap (take (suc n)) e

part_stands : (net : Net) (inputs : List (List ℤ)) (kinds : List HostKind) (instants a : ℕ) (actor : Actor) (base : State) (front : List ℤ) (givers : List GiverView) (takers : List TakerView) (first p : Part) → IsProper net → slice_get net.actors a ≡ Some actor →
    IsFirstState net (inputs_for net inputs) kinds instants base → IsBegun inputs instants a actor p → HasEndsOf givers takers actor.gives actor.takes first p → front ≡ [] →
    ((r : ℕ) (g : GiverView) → slice_get givers r ≡ Some g → g.given ≡ []) → ((r : ℕ) (t : TakerView) → slice_get takers r ≡ Some t → t.taken ≡ []) →
    IsPartAt kinds (inputs_for net inputs) net instants base front p
part_stands net inputs kinds instants a actor base front givers takers first p proper here state is ends no_front no_given no_taken =
    let zero_done : part_done p ≡ 0 = none_done inputs instants a actor p is in
    let gave : (r : ℕ) → (part_state base p).gave r ≡ [] = λ (r : ℕ). ap (λ xs. xs ++ given_on p r) (state.gave r) ∙ none_on (λ (g : GiverView). g.given) p.actor.gives p.givers.items r (row_all (λ (g : GiverView). g.given ≡ []) givers actor.gives p.givers.items ends.givers_are no_given) in
    let took : (r : ℕ) → (part_state base p).took r ≡ [] = λ (r : ℕ). ap (λ xs. xs ++ taken_on p r) (state.took r) ∙ none_on (λ (t : TakerView). t.taken) p.actor.takes p.takers.items r (row_all (λ (t : TakerView). t.taken ≡ []) takers actor.takes p.takers.items ends.takers_are no_taken) in
    let there : slice_get net.actors p.number ≡ Some p.actor = ap (slice_get net.actors) is.is ∙ here ∙ ap Some (sym is.of_actor) in
    let arity : length p.actor.takes ≡ operands (form_of p.actor.kind) = ap (λ (y : Actor). length y.takes) is.of_actor ∙ (usable net a actor proper here).arity ∙ ap (λ (y : Actor). operands (form_of y.kind)) (sym is.of_actor) in
    let lists : map (part_state base p).took p.actor.takes ≡ replicate (operands (form_of p.actor.kind)) [] = none_of_each (part_state base p).took p.actor.takes took ∙ ap (λ n. replicate n []) arity in
    record {
      plugged = plugged net instants proper;
      there = there;
      reads = subst (λ (y : Actor). ReadsInput y.kind (inputs_for net inputs) p.input.items) (sym is.of_actor) (reads_seen net inputs a actor actor.kind p.input.items here refl is.reads);
      state = subst (λ (n : ℕ). IsActorState p.actor instants n (map (part_state base p).took p.actor.takes) p.state) (sym zero_done)
          (subst (λ (xs : List (List ℤ)). IsActorState p.actor instants 0 xs p.state) (sym lists) (own_state inputs instants a actor p is));
      stands = state.stands p.number (part_state base p) zero_done gave took;
      output = none_out p.actor.kind front ((part_state base p).took (slice_index_or p.actor.takes 0 0)) p.output.items (took (slice_index_or p.actor.takes 0 0)) no_front is.empty;
    }

-- the ends of a ring
ring_joined : (net : Net) (inputs : List (List ℤ)) (instants : ℕ) (crew : List (List Part)) (places : List Place) (ends : List Ends) (made : AreMade net inputs instants crew places ends) → IsProper net → (r : ℕ) (ring : RingSpec) → slice_get net.rings r ≡ Some ring →
    (j : IsJoined crew places ends r ring) × AreNewEnds ring j.g j.t
ring_joined net inputs instants crew places ends made proper r ring here =
    let l : r < length net.rings = slice_get_within net.rings r ring here in
    let is = proper.rings r ring here in
    let from = sets_out net inputs instants crew places ends made proper ring.from is.giver is.gives_here in
    let to = sets_out net inputs instants crew places ends made proper ring.to is.taker is.takes_here in
    let ended : length ends ≡ length net.rings = made.joined.ended in
    let gs : length made.joined.givers ≡ length net.rings = made.joined.made.0 in
    let ts : length made.joined.takers ≡ length net.rings = made.joined.made.1 in
    let (at, at_is) = get_there ends r (omega arith) in
    let (g, g_is) = get_there made.joined.givers r (omega arith) in
    let (t, t_is) = get_there made.joined.takers r (omega arith) in
    let new : AreNewEnds ring g t = made.joined.new r ring g t here g_is t_is in
    let place = made.joined.at r ring at here at_is in
    let own_from : eqb (giver net r) ring.from ≡ true = eq-eqb (giver net r) ring.from (from_here net r ring here) in
    let own_to : eqb (taker net r) ring.to ≡ true = eq-eqb (taker net r) ring.to (to_here net r ring here) in
    let gives : slice_get is.giver.gives at.giver ≡ Some r =
    ap (λ xs. slice_get xs at.giver) (proper.actors ring.from is.giver is.gives_here).gives ∙ ap (slice_get (rings_from net.rings ring.from (length net.rings))) place.0
    ∙ where_at (λ q. eqb (giver net q) ring.from) (length net.rings) r l own_from in
    let takes : slice_get is.taker.takes at.taker ≡ Some r =
    ap (λ xs. slice_get xs at.taker) (proper.actors ring.to is.taker is.takes_here).takes ∙ ap (slice_get (rings_to net.rings ring.to (length net.rings))) place.1
    ∙ where_at (λ q. eqb (taker net q) ring.to) (length net.rings) r l own_to in (
      record {
        at = at;
        ends_at = at_is;
        giver = from.part;
        giver_is = from.at;
        gives = ap (λ (y : Actor). slice_get y.gives at.giver) from.begun.of_actor ∙ gives;
        g = g;
        giver_end = row_at made.joined.givers is.giver.gives from.part.givers.items at.giver r g from.ends.givers_are gives g_is;
        taker = to.part;
        taker_is = to.at;
        takes = ap (λ (y : Actor). slice_get y.takes at.taker) to.begun.of_actor ∙ takes;
        t = t;
        taker_end = row_at made.joined.takers is.taker.takes to.part.takers.items at.taker r t to.ends.takers_are takes t_is;
        ring_is = new.name;
      },
      new,
    )

none_held : (s : State) (r : ℕ) → s.gave r ≡ [] → s.took r ≡ [] → held s r ≡ []
none_held s r g t = ap (λ xs. drop (length xs) (s.gave r)) t ∙ g

-- then nothing is held
pub first_held : (net : Net) (schedule : Timetable) (inputs : List (List ℤ)) (operators : List Operator) (instants : ℕ) → CanMakeCore net schedule inputs operators instants →
    (r : ℕ) → held (state_of (first_seen net schedule inputs operators instants)) r ≡ []
first_held net schedule inputs operators instants fixed r =
    let state = first_state_is net schedule inputs operators instants (replicate (length net.actors) 0) fixed (zero_at (length net.actors)) in
    none_held (state_of (first_seen net schedule inputs operators instants)) r (state.gave r) (state.took r)

-- what was made, seen as the state of a core without an event
pub stands_seen : (net : Net) (schedule : Timetable) (inputs : List (List ℤ)) (operators : List Operator) (instants : ℕ) (crew : List (List Part)) (places : List Place) (ends : List Ends) → CanMakeCore net schedule inputs operators instants →
    AreMade net inputs instants crew places ends → IsStanding (first_seen net schedule (inputs_for net inputs) operators instants) 0 crew places ends
stands_seen net schedule inputs operators instants crew places ends fixed made =
    let proper : IsProper net = fixed.proper in
    let seen : Seen = first_seen net schedule (inputs_for net inputs) operators instants in
    let kept : CanMakeCore net schedule (inputs_for net inputs) operators instants = fixed_seen net schedule inputs operators instants fixed in
    let none : (b : ℕ) → done_of (replicate (length net.actors) 0) b ≡ 0 = zero_at (length net.actors) in
    let state : IsFirstState net (inputs_for net inputs) (kinds_of operators) instants (state_of seen) = first_state_is net schedule (inputs_for net inputs) operators instants (replicate (length net.actors) 0) kept none in
    let given : (r : ℕ) (g : GiverView) → slice_get made.joined.givers r ≡ Some g → g.given ≡ [] = λ (r : ℕ) (g : GiverView) (e : slice_get made.joined.givers r ≡ Some g). given_none net.rings made.joined.givers made.joined.takers made.joined.made made.joined.new r g e in
    let taken : (r : ℕ) (t : TakerView) → slice_get made.joined.takers r ≡ Some t → t.taken ≡ [] = λ (r : ℕ) (t : TakerView) (e : slice_get made.joined.takers r ≡ Some t). taken_none net.rings made.joined.givers made.joined.takers made.joined.made made.joined.new r t e in
    record {
      fixed = kept;
      within = none_within (machine_of seen).sys (done_of (replicate (length net.actors) 0)) none;
      early = omega arith;
      few = made.few;
      placed = made.seated.placed;
      ended = made.joined.ended;
      shared = made.seated.shared;
      covered = made.seated.covered;
      actors = λ a l.
          let (actor, here) = get_there net.actors a l in
          let out = sets_out net inputs instants crew places ends made proper a actor here in
          let p : Part = out.part in
          let zero_before : ones_to p.actor.firing 0 ≡ 0 = ones_to-none p.actor.firing in
          record {
            part = p;
            at = out.at;
            number = out.begun.is;
            stands = part_stands net inputs (kinds_of operators) instants a actor (state_of seen) (carried seen 0 p) made.joined.givers made.joined.takers out.first p proper here state out.begun out.ends (take_none (ones_to p.actor.firing 0) (took_first seen p) (state.took (slice_index_or p.actor.takes 0 0))) given taken;
            took = took_enough p.actor.kind (ones_to p.actor.firing 0) (length (took_first seen p)) zero_before;
          };
      rings = λ r ring here.
          let (j, new) = ring_joined net inputs instants crew places ends made proper r ring here in
          record {
            joined = j;
            holds = record {
              given = new.given;
              taken = new.taken;
              held = new.held ∙ sym (none_held (state_of seen) r (state.gave r) (state.took r));
              known = new.known ∙ sym new.held;
              slots = ap (λ xs. j.g.slots + length xs) new.held ∙ (let z : j.g.slots + 0 ≡ ring.size + 1 = omega (arith, new.slots) in z);
              capacity = new.capacity;
            };
          };
    }

pub stands_first : (net : Net) (schedule : Timetable) (inputs : List (List ℤ)) (operators : List Operator) (instants : ℕ) (crew : List (List Part)) (places : List Place) (ends : List Ends) → CanMakeCore net schedule inputs operators instants →
    AreMade net inputs instants crew places ends → IsStanding (seen_by net schedule operators instants crew places) 0 crew places ends
stands_first net schedule inputs operators instants crew places ends fixed made =
    subst (λ (seen : Seen). IsStanding seen 0 crew places ends) (sym (first_is net schedule inputs operators instants crew places ends made fixed.proper))
    (stands_seen net schedule inputs operators instants crew places ends fixed made)
