-- What a runner that stands gives to its calls.
use Rattle.std.proofs.Common.{ℕ, suc, zero, ◌<◌, ◌≡◌, List, [], ◌∷◌, ◌++◌, length, get_or, take, drop, ap, sym, ◌∙◌, subst, arith}
use Rattle.std.specs.Prelude.{ℤ, Option, Some, slice_get}
use Rattle.std.proofs.lemmas.Option.{slice_get_within, get_or_from_slice_get}
use Rattle.std.proofs.lemmas.List.{length-map, take_all, take-append-le}
use Rattle.lucy_host.specs.declared.kind.HostKind.{HostKind}
use Rattle.lucy_host.specs.Operators.{Operator, kinds_of}
use Rattle.lucy_stream.specs.Fronts.{IsFront}
use Rattle.lucy_net.specs.declared.kind.ActorKind.TheVariants.{Output}
use Rattle.lucy_net.specs.declared.net.Actor.{Actor}
use Rattle.lucy_net.specs.declared.net.RingSpec.{RingSpec}
use Rattle.lucy_net.specs.declared.net.Net.{Net}
use Rattle.lucy_net.specs.States.{KnowsOperator}
use Rattle.lucy_net.specs.Schedules.{Timetable}
use Rattle.lucy_core.specs.Seen.{Seen}
use Rattle.lucy_worker.specs.declared.part.Part.{Part}
use Rattle.lucy_runner.specs.declared.place.Place.{Place}
use Rattle.lucy_runner.specs.declared.place.Ends.{Ends}
use Rattle.lucy_runner.specs.declared.seat.Seat.{Seat}
use Rattle.lucy_runner.specs.Homes.{actors_by}
use Rattle.lucy_runner.specs.Crews.{seated, crew_of, part_in, placed_in, part_of, seen_by, AreJoined}
use Rattle.lucy_runner.specs.Standing.{IsPartOf, IsStanding, AreOutputs}
use Rattle.lucy_runner.specs.Turns.{AreServed, HaveTurned, HaveAllMet}
use Rattle.lucy_runner.specs.Rounds.{IsRoundTo}
use Rattle.lucy_runner.proofs.PlaceLaws.{IsFound, found, part_is}
use Rattle.lucy_runner.proofs.TurningLaws.{crew_get}
use Rattle.lucy_runner.proofs.RoundLaws.{joined, round_stands}

-- the operators suffice for all parts
served : (seen : Seen) (before count : ℕ) (crew : List (List Part)) (places : List Place) (ends : List Ends) → IsStanding seen before crew
    places ends → length seen.operators ≡ count → AreServed count crew
served seen before count crew places ends standing enough s k parts p e f =
    let place : slice_get places p.number ≡ Some (record { seat = s; part = k }) = standing.covered s k parts p e f in
    let l : p.number < length seen.net.actors = omega (arith, slice_get_within places p.number _ place, standing.placed) in
    let is : IsPartOf seen before crew places p.number = standing.actors p.number l in
    let here : part_of crew places p.number ≡ Some p = ap (placed_in crew) place ∙ ap (λ (o : Option (List Part)). part_in o k) e ∙ f in
    let there : part_of crew places p.number ≡ Some is.part = is.at in
    let same : is.part ≡ p = cc in
    let known : KnowsOperator is.part.actor.kind (length seen.operators) = standing.fixed.known is.part.number is.part.actor is.stands.there in
    subst (λ (x : Part). KnowsOperator x.actor.kind count) same (subst (λ (n : ℕ). KnowsOperator is.part.actor.kind n) enough known)

-- as many operators are of the same kinds
as_many_kinds : (xs ys : List Operator) → kinds_of xs ≡ kinds_of ys → length xs ≡ length ys
as_many_kinds xs ys same =
    let a : length (kinds_of xs) ≡ length xs = length-map xs (λ (o : Operator). o.kind) in
    let b : length (kinds_of ys) ≡ length ys = length-map ys (λ (o : Operator). o.kind) in
    omega (arith, a, b, ap (λ (ks : List HostKind). length ks) same)

-- the operators of a runner's actors are those of a host, seat by seat
pub served_in : (net : Net) (schedule : Timetable) (ops operators : List Operator) (instants before : ℕ) (seats entry : List Seat)
    (places : List Place) (ends : List Ends) →
    IsStanding (seen_by net schedule ops instants (crew_of seats) places) before (crew_of seats) places ends → kinds_of ops ≡ kinds_of
    operators → entry ≡ seats → AreServed (length operators) (crew_of entry)
served_in net schedule ops operators instants before seats entry places ends standing same entry_is =
    subst (λ (xs : List Seat). AreServed (length operators) (crew_of xs)) (sym entry_is)
    (served (seen_by net schedule ops instants (crew_of seats) places) before (length operators) (crew_of seats) places ends standing
    (as_many_kinds ops operators same))

-- the actors of a runner's workers are those of its seats
pub held_in : (seats entry : List Seat) (crew : List (List ℕ)) → actors_by (crew_of seats) ≡ crew → entry ≡ seats → actors_by (crew_of entry) ≡ crew
held_in seats entry crew same entry_is = ap (λ (xs : List Seat). actors_by (crew_of xs)) entry_is ∙ same

-- what a list of so many holds after a slice of it was written back
abbrev pub back_in : ℕ → List Seat → List Seat → List Seat
back_in n xs ys = take n (xs ++ drop (length xs) ys)

pub written_back : (n : ℕ) (xs ys : List Seat) → length xs ≡ n → back_in n xs ys ≡ xs
written_back n xs ys e = take-append-le n xs (drop (length xs) ys) (omega arith) ∙ take_all n xs (omega arith)

-- a round is over
pub record IsRoundOver (net : Net) (schedule : Timetable) (ops : List Operator) (instants before moves : ℕ) (seats met : List Seat) (places : List Place) (ends : List Ends) : Type 0 where
  pub stands : IsStanding (seen_by net schedule ops instants (crew_of met) places) before (crew_of met) places ends
  pub leads : IsRoundTo (seen_by net schedule ops instants (crew_of seats) places) (seen_by net schedule ops instants (crew_of met) places) moves
  pub kept : actors_by (crew_of met) ≡ actors_by (crew_of seats)

-- the steps of a round over a slice that is written back
module _ (net : Net) (schedule : Timetable) (ops : List Operator) (instants before moves n : ℕ) (kinds : List HostKind)
    (seats entry turned : List Seat) (places list : List Place) (ends others : List Ends) (rings : List RingSpec)
    (standing : IsStanding (seen_by net schedule ops instants (crew_of seats) places) before (crew_of seats) places ends)
    (same : kinds_of ops ≡ kinds) (entry_is : entry ≡ seats) (list_is : list ≡ places) (others_are : others ≡ ends)
    (rings_are : rings ≡ net.rings)
    (turns : HaveTurned kinds (crew_of entry) (crew_of turned) moves) where
  -- after a turn of the seats' workers the ends of every ring can meet
  pub joined_here : AreJoined (crew_of turned) list others rings
  joined_here =
      let here : HaveTurned kinds (crew_of seats) (crew_of turned) moves = subst (λ (xs : List Seat). HaveTurned kinds (crew_of xs) (crew_of turned) moves) entry_is turns in
      let all : AreJoined (crew_of turned) places ends net.rings = joined net schedule ops kinds instants before moves (crew_of seats) (crew_of turned) places ends standing here in
      subst (λ (ps : List Place). AreJoined (crew_of turned) ps others rings) (sym list_is)
      (subst (λ (es : List Ends). AreJoined (crew_of turned) places es rings) (sym others_are)
      (subst (λ (rs : List RingSpec). AreJoined (crew_of turned) places ends rs) (sym rings_are) all))

  -- and after the meetings a round is over
  pub round_here : (met : List Seat) → length met ≡ n → HaveAllMet (crew_of turned) (crew_of met) list others rings → IsRoundOver net
      schedule ops instants before moves seats (back_in n met seats) places ends
  round_here met met_len meets =
      let here : HaveTurned (kinds_of ops) (crew_of seats) (crew_of turned) moves =
      subst (λ (ks : List HostKind). HaveTurned ks (crew_of seats) (crew_of turned) moves) (sym same) (subst (λ (xs : List Seat). HaveTurned kinds (crew_of xs) (crew_of turned) moves) entry_is turns) in
      let all : HaveAllMet (crew_of turned) (crew_of met) places ends net.rings =
      subst (λ (rs : List RingSpec). HaveAllMet (crew_of turned) (crew_of met) places ends rs) rings_are
      (subst (λ (es : List Ends). HaveAllMet (crew_of turned) (crew_of met) places es rings) others_are
      (subst (λ (ps : List Place). HaveAllMet (crew_of turned) (crew_of met) ps others rings) list_is meets)) in
      let over : IsStanding (seen_by net schedule ops instants (crew_of met) places) before (crew_of met) places ends × IsRoundTo (seen_by net schedule ops instants (crew_of seats) places) (seen_by net schedule ops instants (crew_of met) places) moves
      × (actors_by (crew_of met) ≡ actors_by (crew_of seats)) =
      round_stands net schedule ops instants before moves (crew_of seats) (crew_of turned) (crew_of met) places ends standing here all in
      subst (λ (xs : List Seat). IsRoundOver net schedule ops instants before moves seats xs places ends)
      (sym (written_back n met seats met_len)) (record { stands = over.0; leads = over.1; kept = over.2 })

-- what is read where an output is: its part
pub record IsReadAs (seats : List Seat) (places : List Place) (a : ℕ) (w : Place) (parts : List Part) : Type 0 where
  pub part : Part
  pub at : part_of (crew_of seats) places a ≡ Some part
  pub inside : w.part < length parts
  pub is : (d : Part) → get_or parts w.part d ≡ part

-- the output's actor
pub output_at : (outputs : List ℕ) (actors : List Actor) (number a v : ℕ) (actor : Actor) → AreOutputs actors outputs → slice_get actors a ≡ Some actor → actor.kind ≡ Output number → v ≡ get_or outputs number v → v ≡ a
output_at outputs actors number a v actor all there kind is = is ∙ get_or_from_slice_get outputs number a v (all number a actor there kind)

-- its place
pub place_at : (seen : Seen) (before : ℕ) (seats : List Seat) (places : List Place) (ends : List Ends) (a v : ℕ) (actor : Actor) → IsStanding seen before (crew_of seats) places ends → slice_get seen.net.actors a ≡ Some actor → v ≡ a → (p : Part) × IsFound (crew_of seats) places v p
place_at seen before seats places ends a v actor standing there same =
    let is : IsPartOf seen before (crew_of seats) places a = standing.actors a (slice_get_within seen.net.actors a actor there) in
    (is.part, subst (λ (k : ℕ). IsFound (crew_of seats) places k is.part) (sym same) (found (crew_of seats) places a is.part is.at))

pub seat_read_at : (seats : List Seat) (places : List Place) (v : ℕ) (w : Place) (p : Part) → IsFound (crew_of seats) places v p → w ≡ get_or places v w → w.seat < length seats
seat_read_at seats places v w p f w_is =
    let here : w ≡ f.place = w_is ∙ get_or_from_slice_get places v f.place w f.at in
    omega (arith, ap (λ (x : Place). x.seat) here, slice_get_within (crew_of seats) f.place.seat f.parts f.seat, length-map seats seated)

-- and its part
pub part_read_at : (seats : List Seat) (places : List Place) (v : ℕ) (w : Place) (s : Seat) (parts : List Part) (p : Part) → IsFound (crew_of seats) places v p → w ≡ get_or places v w → s ≡ get_or seats w.seat s → parts ≡ seated s → IsReadAs seats places v w parts
part_read_at seats places v w s parts p f w_is s_is parts_is =
    let here : w ≡ f.place = w_is ∙ get_or_from_slice_get places v f.place w f.at in
    let seat : slice_get (crew_of seats) w.seat ≡ Some f.parts = ap (λ (x : Place). slice_get (crew_of seats) x.seat) here ∙ f.seat in
    let all : parts ≡ f.parts = parts_is ∙ ap seated s_is ∙ crew_get seats w.seat s f.parts seat in
    let at : slice_get parts w.part ≡ Some p = ap (λ (xs : List Part). slice_get xs w.part) all ∙ ap (λ (x : Place). slice_get f.parts x.part) here ∙ f.part in
    record { part = p; at = part_is (crew_of seats) places v f.place f.parts p f.at f.seat f.part; inside = slice_get_within parts w.part p at; is = λ d. get_or_from_slice_get parts w.part p d at }

-- a front past some items is one of the rest past them
pub front_past : (n : ℕ) (xs ys : List ℤ) → IsFront xs ys → IsFront (drop n xs) (drop n ys)
front_past zero xs ys front = front
front_past (suc n) [] ys front = tt
front_past (suc n) (x ∷ xs) [] front = absurd front
front_past (suc n) (x ∷ xs) (y ∷ ys) front = front_past n xs ys front.1
