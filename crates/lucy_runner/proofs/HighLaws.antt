-- The counts and lists after a round are a state of the net.
use Rattle.std.proofs.Common.{ℕ, ◌+◌, ◌<◌, ◌≤◌, ◌≡◌, List, [], ◌++◌, length, drop, ap, sym, refl, ◌∙◌, subst, inl, inr, arith, append_assoc}
use Rattle.std.specs.Prelude.{ℤ, All, Some, None, slice_get}
use Rattle.std.proofs.lemmas.Bool.{cases_lt}
use Rattle.std.proofs.lemmas.List.{append-nil, take-append-drop, drop_at}
use Rattle.lucy_host.specs.Operators.{kinds_of}
use Rattle.lucy_stream.specs.Fronts.{IsFront}
use Rattle.lucy_stream.proofs.FrontLaws.{IsFront-cut}
use Rattle.lucy_stream.specs.States.{State, held, IsState}
use Rattle.lucy_stream.specs.Actors.{StandsAs, IsSameAt}
use Rattle.lucy_stream.proofs.ActorLaws.{all_stand, each_stands, same_stands}
use Rattle.lucy_net.specs.declared.net.Actor.{Actor}
use Rattle.lucy_net.specs.declared.net.RingSpec.{RingSpec}
use Rattle.lucy_net.specs.Plans.{giver, taker}
use Rattle.lucy_net.proofs.NetLaws.{from_here, to_here, size_here, gives_there, takes_there, ring_cases}
use Rattle.lucy_ring.specs.Views.{RingName}
use Rattle.lucy_worker.specs.declared.part.Part.{Part}
use Rattle.lucy_worker.specs.Rounds.{IsIn}
use Rattle.lucy_worker.proofs.RoundLaws.{part_stands, ring_front, ring_bound}
use Rattle.lucy_runner.specs.Crews.{part_of, done_in}
use Rattle.lucy_runner.specs.Standing.{carried}
use Rattle.lucy_runner.proofs.PlaceLaws.{no_part}
use Rattle.lucy_runner.proofs.EndLaws.{none_on_ring}
use Rattle.lucy_runner.proofs.Rounds.{Round, engine, low, high, given_in, taken_in, Goes, goes, RingGoes, ring_goes}
use Rattle.lucy_runner.proofs.LowLaws.{wired, local, low_state, low_done}
use Rattle.lucy_runner.proofs.OwnLaws.{of_ring}

-- what is held is what was given and not taken
pub all_given : (s : State) (r : ℕ) → IsFront (s.took r) (s.gave r) → s.gave r ≡ s.took r ++ held s r
all_given s r front = sym (ap (λ (xs : List ℤ). xs ++ held s r) (IsFront-cut (s.took r) (s.gave r) front) ∙ take-append-drop (length (s.took r)) (s.gave r))

-- the lists of a ring after the turn
pub gave_high : (x : Round) (r : ℕ) (ring : RingSpec) (w : RingGoes x r ring) → slice_get x.seen.net.rings r ≡ Some ring → (high x).gave r ≡ ((low x).took r ++ w.meet.joined.t.held) ++ w.meet.joined.g.given
gave_high x r ring w e =
    let given : given_in (part_of x.turned x.places (giver x.seen.net r)) r ≡ w.meet.joined.g.given =
    ap (λ a. given_in (part_of x.turned x.places a) r) (from_here x.seen.net r ring e) ∙ ap (λ o. given_in o r) w.from.turn.at ∙ w.given in
    let here : w.meet.joined.t.held ≡ held (low x) r = w.same_held ∙ w.has.holds.held in
    ap (λ (xs : List ℤ). (low x).gave r ++ xs) given
    ∙ ap (λ (xs : List ℤ). xs ++ w.meet.joined.g.given) (all_given (low x) r ((low_state x).fronts r) ∙ ap (λ (xs : List ℤ). (low x).took r ++ xs) (sym here))

pub took_high : (x : Round) (r : ℕ) (ring : RingSpec) (w : RingGoes x r ring) → slice_get x.seen.net.rings r ≡ Some ring → (high x).took r ≡ (low x).took r ++ w.meet.joined.t.taken
took_high x r ring w e =
    ap (λ (xs : List ℤ). (low x).took r ++ xs) (ap (λ a. taken_in (part_of x.turned x.places a) r) (to_here x.seen.net r ring e) ∙ ap (λ o. taken_in o r) w.to.turn.at ∙ w.taken)

-- what the taker holds after the meeting
pub held_high : (x : Round) (r : ℕ) (ring : RingSpec) (w : RingGoes x r ring) → slice_get x.seen.net.rings r ≡ Some ring → held (high x) r ≡ w.meet.after.t.held
held_high x r ring w e =
    let took : List ℤ = (low x).took r in
    let all : (took ++ w.meet.joined.t.held) ++ w.meet.joined.g.given ≡ (took ++ w.meet.joined.t.taken) ++ w.meet.after.t.held = append_assoc took w.meet.joined.t.held w.meet.joined.g.given ∙ ap (λ (xs : List ℤ). took ++ xs) w.meet.meets.fifo ∙ sym (append_assoc took w.meet.joined.t.taken w.meet.after.t.held) in
    ap (λ (xs : List ℤ). drop (length xs) ((high x).gave r)) (took_high x r ring w e)
    ∙ ap (drop (length (took ++ w.meet.joined.t.taken))) (gave_high x r ring w e ∙ all)
    ∙ drop_at (took ++ w.meet.joined.t.taken) w.meet.after.t.held (length (took ++ w.meet.joined.t.taken)) refl

pub slots_before : (x : Round) (r : ℕ) (ring : RingSpec) (w : RingGoes x r ring) → w.meet.joined.g.ring.capacity ≡ ring.size + 1
slots_before x r ring w = ap (λ (n : RingName). n.capacity) w.same_ring ∙ w.has.holds.capacity

-- a ring that isn't there is not used
given_past : (x : Round) (a r : ℕ) → length x.seen.net.rings ≤ r → given_in (part_of x.turned x.places a) r ≡ []
given_past x a r past = elim (cases_lt a (length x.seen.net.actors)) [
  | inl l ↦
      let w : Goes x a = goes x a l in
      let all : All (λ s. s < length x.seen.net.rings) w.turn.after.actor.gives =
      subst (λ (o : Actor). All (λ s. s < length x.seen.net.rings) o.gives) (sym w.turn.run.actor) (gives_there x.seen.net a w.part.actor (x.standing.fixed.proper.actors a w.part.actor w.there)) in
      ap (λ o. given_in o r) w.turn.at ∙ none_on_ring w.turn.after.actor.gives _ r (λ j xs at list. absurd (omega (arith, of_ring (λ s. s < length x.seen.net.rings) w.turn.after.actor.gives j r all at)))
  | inr out ↦ ap (λ o. given_in o r) (no_part x.turned x.places a (omega (arith, x.standing.placed)))
]

taken_past : (x : Round) (a r : ℕ) → length x.seen.net.rings ≤ r → taken_in (part_of x.turned x.places a) r ≡ []
taken_past x a r past = elim (cases_lt a (length x.seen.net.actors)) [
  | inl l ↦
      let w : Goes x a = goes x a l in
      let all : All (λ s. s < length x.seen.net.rings) w.turn.after.actor.takes =
      subst (λ (o : Actor). All (λ s. s < length x.seen.net.rings) o.takes) (sym w.turn.run.actor) (takes_there x.seen.net a w.part.actor (x.standing.fixed.proper.actors a w.part.actor w.there)) in
      ap (λ o. taken_in o r) w.turn.at ∙ none_on_ring w.turn.after.actor.takes _ r (λ j xs at list. absurd (omega (arith, of_ring (λ s. s < length x.seen.net.rings) w.turn.after.actor.takes j r all at)))
  | inr out ↦ ap (λ o. taken_in o r) (no_part x.turned x.places a (omega (arith, x.standing.placed)))
]

same_past : (x : Round) (r : ℕ) → length x.seen.net.rings ≤ r → ((high x).gave r ≡ (low x).gave r) × ((high x).took r ≡ (low x).took r)
same_past x r past = (
  ap (λ (xs : List ℤ). (low x).gave r ++ xs) (given_past x (giver x.seen.net r) r past) ∙ append-nil ((low x).gave r),
  ap (λ (xs : List ℤ). (low x).took r ++ xs) (taken_past x (taker x.seen.net r) r past) ∙ append-nil ((low x).took r),
)

high_fronts : (x : Round) (r : ℕ) → IsFront ((high x).took r) ((high x).gave r)
high_fronts x r = elim (ring_cases x.seen.net r) [
  | inl here ↦
      let w : RingGoes x r here.0 = ring_goes x r here.0 here.1 in
      subst (λ (xs : List ℤ). IsFront xs ((high x).gave r)) (sym (took_high x r here.0 w here.1))
      (subst (λ (xs : List ℤ). IsFront ((low x).took r ++ w.meet.joined.t.taken) xs) (sym (gave_high x r here.0 w here.1)) (ring_front ((low x).took r) w.meet.joined.g w.meet.joined.t w.meet.after.g w.meet.after.t w.meet.meets))
  | inr past ↦
      let same = same_past x r past in
      subst (λ (xs : List ℤ). IsFront xs ((high x).gave r)) (sym same.1) (subst (λ (xs : List ℤ). IsFront ((low x).took r) xs) (sym same.0) ((low_state x).fronts r))
]

high_fits : (x : Round) (r : ℕ) → length ((high x).gave r) ≤ length ((high x).took r) + (engine x).sys.size r + 1
high_fits x r = elim (ring_cases x.seen.net r) [
  | inl here ↦
      let w : RingGoes x r here.0 = ring_goes x r here.0 here.1 in
      omega (
        arith,
        ring_bound ((low x).took r) w.meet.joined.g w.meet.joined.t w.meet.after.g w.meet.after.t w.meet.meets,
        ap (λ (xs : List ℤ). length xs) (gave_high x r here.0 w here.1),
        ap (λ (xs : List ℤ). length xs) (took_high x r here.0 w here.1),
        slots_before x r here.0 w,
        size_here x.seen.net x.seen.instants r here.0 here.1,
      )
  | inr past ↦
      let same = same_past x r past in
      let is : IsState (engine x) (low x) = low_state x in
      omega (arith, ap (λ (xs : List ℤ). length xs) same.0, ap (λ (xs : List ℤ). length xs) same.1, is.within.fits r, is.gave_count r, is.took_count r)
]

-- each actor stands there
actor_stands : (x : Round) (a : ℕ) → a < length x.seen.net.actors → StandsAs (engine x) a (high x)
actor_stands x a l =
    let w : Goes x a = goes x a l in
    let q : Part = w.turn.after in
    let same : q.number ≡ a = w.turn.run.number ∙ w.number in
    let ends : IsIn (engine x).sys (low x) q (high x) = record {
      done = ap (high x).done same ∙ ap done_in w.turn.at;
      gave = λ r f. ap (λ b. (low x).gave r ++ given_in (part_of x.turned x.places b) r) (f ∙ same) ∙ ap (λ o. (low x).gave r ++ given_in o r) w.turn.at;
      took = λ r f. ap (λ b. (low x).took r ++ taken_in (part_of x.turned x.places b) r) (f ∙ same) ∙ ap (λ o. (low x).took r ++ taken_in o r) w.turn.at;
    } in
    subst (λ b. StandsAs (engine x) b (high x)) same
    (part_stands (kinds_of x.seen.operators) x.seen.inputs x.seen.net x.seen.instants (low x) (carried x.seen x.before w.part) q (high x)
    (w.turn.run.stands x.seen.inputs x.seen.net x.seen.instants (low x) (carried x.seen x.before w.part) w.stands) ends)

idle_stands : (x : Round) (a : ℕ) → length x.seen.net.actors ≤ a → StandsAs (engine x) a (high x)
idle_stands x a past =
    let before : part_of x.crew x.places a ≡ None = no_part x.crew x.places a (omega (arith, x.standing.placed)) in
    let after : part_of x.turned x.places a ≡ None = no_part x.turned x.places a (omega (arith, x.standing.placed)) in
    let same : IsSameAt (engine x).sys a (low x) (high x) = record {
      done = ap done_in after ∙ sym (low_done x a ∙ ap done_in before);
      gave = λ r f. ap (λ b. (low x).gave r ++ given_in (part_of x.turned x.places b) r) f ∙ ap (λ o. (low x).gave r ++ given_in o r) after ∙ append-nil ((low x).gave r);
      took = λ r f. ap (λ b. (low x).took r ++ taken_in (part_of x.turned x.places b) r) f ∙ ap (λ o. (low x).took r ++ taken_in o r) after ∙ append-nil ((low x).took r);
    } in
    same_stands (engine x) (low x) (high x) a (wired x) (local x) same (each_stands (engine x) (low x) a (low_state x))

pub high_state : (x : Round) → IsState (engine x) (high x)
high_state x = all_stand (engine x) (high x) (λ a. elim (cases_lt a (length x.seen.net.actors)) [ inl l ↦ actor_stands x a l | inr past ↦ idle_stands x a past ]) (high_fronts x) (high_fits x)
