-- A round leads from a state to a state.
use Rattle.std.proofs.Common.{ℕ, ◌<◌, ◌≤◌, ◌≡◌, List, length, ap, sym, ◌∙◌, subst, inl, inr, arith}
use Rattle.std.specs.Prelude.{None, Some, ℤ}
use Rattle.std.proofs.lemmas.Bool.{cases_lt}
use Rattle.std.proofs.lemmas.List.{length-map}
use Rattle.lucy_host.specs.Operators.{Operator, kinds_of}
use Rattle.lucy_host.specs.declared.kind.HostKind.{HostKind}
use Rattle.lucy_net.specs.declared.net.Net.{Net}
use Rattle.lucy_net.specs.Schedules.{Timetable}
use Rattle.lucy_core.specs.Seen.{Seen, done_of}
use Rattle.lucy_worker.specs.declared.part.Part.{Part}
use Rattle.lucy_runner.specs.declared.place.Place.{Place}
use Rattle.lucy_runner.specs.declared.place.Ends.{Ends}
use Rattle.lucy_runner.specs.Homes.{actors_by}
use Rattle.lucy_runner.specs.Crews.{part_of, done_at_place, done_list, seen_by, AreJoined}
use Rattle.lucy_runner.specs.Standing.{IsStanding}
use Rattle.lucy_runner.specs.Turns.{HaveTurned, HaveAllMet}
use Rattle.lucy_runner.specs.Rounds.{IsRoundTo}
use Rattle.lucy_runner.proofs.PlaceLaws.{no_part}
use Rattle.lucy_runner.proofs.CrewLaws.{IsSameInput, done_is, inputs_same, still_held}
use Rattle.lucy_runner.proofs.JoinLaws.{still_joined}
use Rattle.lucy_runner.proofs.Rounds.{Round, Goes, goes}
use Rattle.lucy_runner.proofs.ReachLaws.{picks_of, can_run, met_done, numbers_turned, numbers_met, picks_counted}
use Rattle.lucy_runner.proofs.MoveLaws.{all_moved, moves_none}
use Rattle.lucy_runner.proofs.StandLaws.{next, next_is}
use Rattle.lucy_runner.proofs.AgainLaws.{stands_again}

-- after a turn the ends of every ring can meet
pub joined : (net : Net) (schedule : Timetable) (ops : List Operator) (kinds : List HostKind) (instants before moves : ℕ) (crew turned : List (List Part)) (places : List Place) (ends : List Ends) →
    IsStanding (seen_by net schedule ops instants crew places) before crew places ends → HaveTurned kinds crew turned moves → AreJoined turned places ends net.rings
joined net schedule ops kinds instants before moves crew turned places ends standing turns r ring e =
    still_joined kinds crew turned moves places ends r ring turns (standing.rings r ring e).joined

-- what a round does to what is seen
round_to : (x : Round) → IsRoundTo x.seen (next x) x.moves
round_to x = record {
  picks = picks_of x;
  count = picks_counted x;
  run = can_run x;
  is = next_is x;
  moved = λ a can. subst (λ n. done_of x.seen.done a < n) (sym (done_is x.met x.places a ∙ met_done x a)) (all_moved x a can);
  none = moves_none x;
}

-- the parts keep their actors and inputs
same_input : (x : Round) (a : ℕ) → IsSameInput (part_of x.crew x.places a) (part_of x.met x.places a)
same_input x a = elim (cases_lt a (length x.seen.net.actors)) [
  | inl l ↦
      let w : Goes x a = goes x a l in
      let same : IsSameInput (Some w.part) (Some w.meet.after) = (
        ap (λ (y : Part). y.actor) w.meet.rest.rest ∙ w.turn.run.actor,
        ap (λ (y : Part). y.input.items) w.meet.rest.rest ∙ ap (λ v. v.items) w.turn.run.input,
      ) in
      subst (λ o. IsSameInput o (part_of x.met x.places a)) (sym w.at) (subst (λ o. IsSameInput (Some w.part) o) (sym w.meet.at) same)
  | inr past ↦
      let l : length x.places ≤ a = omega (arith, x.standing.placed) in
      subst (λ o. IsSameInput o (part_of x.met x.places a)) (sym (no_part x.crew x.places a l)) (subst (λ o. IsSameInput None o) (sym (no_part x.met x.places a l)) tt)
]

-- after a turn and the meetings all stands again, and each worker has the actors that it had
pub round_stands : (net : Net) (schedule : Timetable) (ops : List Operator) (instants before moves : ℕ) (crew turned met : List (List Part)) (places : List Place) (ends : List Ends) →
    IsStanding (seen_by net schedule ops instants crew places) before crew places ends → HaveTurned (kinds_of ops) crew turned moves → HaveAllMet turned met places ends net.rings →
    IsStanding (seen_by net schedule ops instants met places) before met places ends
    × IsRoundTo (seen_by net schedule ops instants crew places) (seen_by net schedule ops instants met places) moves
    × (actors_by met ≡ actors_by crew)
round_stands net schedule ops instants before moves crew turned met places ends standing turns meets =
    let x : Round = record {
      seen = seen_by net schedule ops instants crew places;
      before = before;
      moves = moves;
      crew = crew;
      turned = turned;
      met = met;
      places = places;
      ends = ends;
      counts = done_is crew places;
      as_many = length-map places (done_at_place crew);
      standing = standing;
      turns = turns;
      meets = meets;
    } in
    let same : next x ≡ seen_by net schedule ops instants met places = ap (λ (lists : List (List ℤ)). record x.seen { inputs = lists; done = done_list met places }) (inputs_same net crew met places (same_input x)) in
    let kept : actors_by met ≡ actors_by crew = still_held turned met (numbers_met x) ∙ still_held crew turned (numbers_turned x) in
    (subst (λ (s : Seen). IsStanding s before met places ends) same (stands_again x), subst (λ (s : Seen). IsRoundTo x.seen s moves) same (round_to x), kept)
