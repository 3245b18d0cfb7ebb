-- After a round all stands again.
use Rattle.std.proofs.Common.{ℕ, ◌+◌, ◌<◌, ◌≤◌, ◌≡◌, List, map, length, take, ap, sym, refl, ◌∙◌, subst, arith, length-append}
use Rattle.std.specs.Prelude.{ℤ, All, Some, slice_get, slice_index_or}
use Rattle.std.proofs.lemmas.List.{take-append-le}
use Rattle.std.proofs.lemmas.List.Elements.{All-get_or, All-weaker}
use Rattle.lucy_word.specs.Bits.{ones_to}
use Rattle.lucy_host.specs.Operators.{kinds_of}
use Rattle.lucy_stream.specs.Forms.{operands}
use Rattle.lucy_stream.specs.States.{State}
use Rattle.lucy_stream.specs.Actors.{IsSameAt}
use Rattle.lucy_stream.proofs.ActorLaws.{same_stands}
use Rattle.lucy_net.specs.declared.kind.ActorKind.{ActorKind}
use Rattle.lucy_net.specs.declared.kind.ActorKind.TheVariants as kind
use Rattle.lucy_net.specs.declared.net.Actor.{Actor}
use Rattle.lucy_net.specs.declared.net.RingSpec.{RingSpec}
use Rattle.lucy_net.specs.Plans.{form_of, taker}
use Rattle.lucy_net.specs.States.{IsActorState}
use Rattle.lucy_core.specs.Seen as core
use Rattle.lucy_core.proofs.ListLaws.{map_same}
use Rattle.lucy_core.proofs.SeenLaws.{held_same}
use Rattle.lucy_worker.specs.declared.part.Part.{Part}
use Rattle.lucy_worker.specs.Parts.{done_of, state_of, taken_on, IsPartAt}
use Rattle.lucy_runner.specs.Crews.{part_of}
use Rattle.lucy_runner.specs.Standing.{took_first, carried, TookAsMany, IsPartOf, IsHeld, HasEnds, IsStanding}
use Rattle.lucy_runner.proofs.CrewLaws.{still_shared, still_covered}
use Rattle.lucy_runner.proofs.Rounds.{Round, engine, low, high, taken_in, Goes, goes, RingGoes, ring_goes}
use Rattle.lucy_runner.proofs.LowLaws.{wired, local}
use Rattle.lucy_runner.proofs.HighLaws.{held_high, slots_before}
use Rattle.lucy_runner.proofs.ReachLaws.{turned_shared, turned_covered, numbers_met}
use Rattle.lucy_runner.proofs.StandLaws.{next, same_state, next_within, last, is_last, gave_now, took_now, took_there, puts_same, took_more}

-- the rings of an actor that has taken or given on them
takers_own : (x : Round) (a : ℕ) (w : Goes x a) → All (λ r. taker x.seen.net r ≡ a) w.turn.after.actor.takes
takers_own x a w = subst (λ (o : Actor). All (λ r. taker x.seen.net r ≡ a) o.takes) (sym w.turn.run.actor) w.plugs.takes

-- where the part stood before the meetings
stood : (x : Round) (a : ℕ) (w : Goes x a) → IsPartAt (kinds_of x.seen.operators) x.seen.inputs x.seen.net x.seen.instants (low x) (carried x.seen x.before w.part) w.turn.after
stood x a w = w.turn.run.stands x.seen.inputs x.seen.net x.seen.instants (low x) (carried x.seen x.before w.part) w.stands

-- what an output took from its one ring
first_own : (x : Round) (a output : ℕ) (w : Goes x a) → w.turn.after.actor.kind ≡ kind.Output output → taker x.seen.net (slice_index_or w.turn.after.actor.takes 0 0) ≡ a
first_own x a output w is =
    let arity : length w.turn.after.actor.takes ≡ operands (form_of w.turn.after.actor.kind) = ap (λ (o : Actor). length o.takes) w.turn.run.actor ∙ w.plugs.arity ∙ ap (λ (o : Actor). operands (form_of o.kind)) (sym w.turn.run.actor) in
    let one : operands (form_of w.turn.after.actor.kind) ≡ 1 = ap (λ k. operands (form_of k)) is in
    All-get_or (λ r. taker x.seen.net r ≡ a) w.turn.after.actor.takes 0 0 (omega arith) (takers_own x a w)

took_before : (x : Round) (a : ℕ) (w : Goes x a) → TookAsMany w.turn.after.actor.kind (ones_to w.turn.after.actor.firing x.before) (length ((low x).took (core.first_ring w.turn.after.actor)))
took_before x a w = subst (λ (o : Actor). TookAsMany o.kind (ones_to o.firing x.before) (length ((low x).took (core.first_ring o)))) (sym w.turn.run.actor) w.took

as_many : (most took output : ℕ) (what : ActorKind) → what ≡ kind.Output output → TookAsMany what most took → most ≤ took
as_many most took output what is took_many = subst (λ k. TookAsMany k most took) is took_many

same_carried : (x : Round) (a output : ℕ) (w : Goes x a) → w.turn.after.actor.kind ≡ kind.Output output → carried (next x) x.before (last x a w) ≡ carried x.seen x.before w.part
same_carried x a output w is =
    let o : Actor = w.turn.after.actor in
    let n : ℕ = ones_to o.firing x.before in
    let r : ℕ = core.first_ring o in
    let l : n ≤ length ((low x).took r) = as_many n (length ((low x).took r)) output o.kind is (took_before x a w) in
    ap (take n) (took_now x a r w (first_own x a output w is)) ∙ take-append-le n ((low x).took r) (taken_on w.turn.after r) l
    ∙ ap (λ (v : Actor). take (ones_to v.firing x.before) ((low x).took (core.first_ring v))) w.turn.run.actor

-- the part stands in the state after the round
pub last_stands : (x : Round) (a : ℕ) (w : Goes x a) → IsPartAt (kinds_of x.seen.operators) x.seen.inputs x.seen.net x.seen.instants (core.state_of (next x)) (carried (next x) x.before (last x a w)) (last x a w)
last_stands x a w =
    let q : Part = w.turn.after in
    let was = stood x a w in
    let base : State = core.state_of (next x) in
    let number : q.number ≡ a = w.turn.run.number ∙ w.number in
    let lists : map (state_of base (last x a w)).took q.actor.takes ≡ map (state_of (low x) q).took q.actor.takes =
    map_same (state_of base (last x a w)).took (state_of (low x) q).took q.actor.takes
    (All-weaker (λ r. taker x.seen.net r ≡ a) (λ r. (state_of base (last x a w)).took r ≡ (state_of (low x) q).took r) (λ r own. took_there x a r w own) q.actor.takes (takers_own x a w)) in
    let same : IsSameAt (engine x).sys q.number (state_of (low x) q) (state_of base (last x a w)) = record {
      done = refl;
      gave = λ r f. gave_now x a r w (f ∙ number);
      took = λ r f. took_there x a r w (f ∙ number);
    } in
    record {
      plugged = was.plugged;
      there = was.there;
      reads = was.reads;
      state = subst (λ ls. IsActorState q.actor x.seen.instants (done_of q) ls q.state) (sym lists) was.state;
      stands = same_stands (engine x) (state_of (low x) q) (state_of base (last x a w)) q.number (wired x) (local x) same was.stands;
      output = puts_same q.actor.kind (carried x.seen x.before w.part) (carried (next x) x.before (last x a w)) ((state_of (low x) q).took (core.first_ring q.actor)) ((state_of base (last x a w)).took (core.first_ring q.actor)) q.output.items
          (λ output is. (same_carried x a output w is, took_there x a (core.first_ring q.actor) w (first_own x a output w is))) was.output;
    }

took_longer : (x : Round) (r : ℕ) → length ((low x).took r) ≤ length ((core.state_of (next x)).took r)
took_longer x r = omega (arith, ap (λ (xs : List ℤ). length xs) ((same_state x).took r), length-append ((low x).took r) (taken_in (part_of x.turned x.places (taker x.seen.net r)) r))

actor_again : (x : Round) (a : ℕ) → a < length x.seen.net.actors → IsPartOf (next x) x.before x.met x.places a
actor_again x a l =
    let w : Goes x a = goes x a l in
    let q : Part = w.turn.after in
    let s : Part = w.meet.after in
    record {
      part = s;
      at = w.meet.at;
      number = ap (λ (y : Part). y.number) (is_last x a w) ∙ w.turn.run.number ∙ w.number;
      stands = subst (λ (y : Part). IsPartAt (kinds_of x.seen.operators) x.seen.inputs x.seen.net x.seen.instants (core.state_of (next x)) (carried (next x) x.before y) y) (sym (is_last x a w)) (last_stands x a w);
      took = subst (λ (y : Part). TookAsMany y.actor.kind (ones_to y.actor.firing x.before) (length (took_first (next x) y))) (sym (is_last x a w))
          (took_more q.actor.kind (ones_to q.actor.firing x.before) (length ((low x).took (core.first_ring q.actor))) (length ((core.state_of (next x)).took (core.first_ring q.actor))) (took_longer x (core.first_ring q.actor)) (took_before x a w));
    }

ring_again : (x : Round) (r : ℕ) (ring : RingSpec) → slice_get x.seen.net.rings r ≡ Some ring → HasEnds (next x) x.met x.places x.ends r ring
ring_again x r ring e =
    let w : RingGoes x r ring = ring_goes x r ring e in
    let room : w.meet.after.g.ring.capacity ≡ ring.size + 1 = w.meet.meets.capacity.0 ∙ slots_before x r ring w in
    let holds : IsHeld (next x) r ring w.meet.after.g w.meet.after.t = record {
      given = w.meet.meets.anew.0;
      taken = w.meet.meets.anew.1;
      held = sym (held_same (core.state_of (next x)) (high x) r (same_state x) ∙ held_high x r ring w e);
      known = w.meet.meets.all_items;
      slots = w.meet.meets.all_slots ∙ room;
      capacity = room;
    } in
    record { joined = w.meet.after; holds = holds }

pub stands_again : (x : Round) → IsStanding (next x) x.before x.met x.places x.ends
stands_again x = record {
  fixed = x.standing.fixed;
  within = next_within x;
  early = x.standing.early;
  few = omega (arith, x.standing.few, x.turns.as_many, x.meets.rest.seats);
  placed = x.standing.placed;
  ended = x.standing.ended;
  shared = still_shared x.turned x.met (length x.seen.net.actors) (numbers_met x) (turned_shared x);
  covered = still_covered x.turned x.met x.places (numbers_met x) (turned_covered x);
  actors = actor_again x;
  rings = ring_again x;
}
