-- A block more of a runner: room first, and then more to do.
use Rattle.std.proofs.Common.{ℕ, ◌≡◌, List, ◌++◌, drop, ap, sym, refl, ◌∙◌, subst}
use Rattle.std.specs.Prelude.{ℤ}
use Rattle.lucy_word.specs.Bits.{ones_to}
use Rattle.lucy_host.specs.Operators.{Operator}
use Rattle.lucy_stream.specs.States.{held, IsSame}
use Rattle.lucy_net.specs.declared.net.Actor.{Actor}
use Rattle.lucy_net.specs.declared.net.Net.{Net}
use Rattle.lucy_net.specs.Schedules.{Timetable}
use Rattle.lucy_core.specs.Seen.{Seen, state_of, CanRun, IsOutputOf, first_ring, after_picks}
use Rattle.lucy_core.proofs.OpenLaws.{IsSound}
use Rattle.lucy_core.proofs.SeenLaws.{held_same}
use Rattle.lucy_worker.specs.declared.part.Part.{Part}
use Rattle.lucy_runner.specs.declared.place.Place.{Place}
use Rattle.lucy_runner.specs.declared.place.Ends.{Ends}
use Rattle.lucy_runner.specs.declared.seat.Seat.{Seat}
use Rattle.lucy_runner.specs.Views.{RingView}
use Rattle.lucy_runner.specs.Homes.{actors_by}
use Rattle.lucy_runner.specs.Crews.{crew_of, seen_by}
use Rattle.lucy_runner.specs.Rings.{rings_by}
use Rattle.lucy_runner.specs.Standing.{IsStanding}
use Rattle.lucy_runner.specs.Blocks.{grown_seen}
use Rattle.lucy_runner.specs.Growths.{HaveGrown, HaveSpared}
use Rattle.lucy_runner.proofs.Blocks.{Block, then}
use Rattle.lucy_runner.proofs.BlockStates.{first, last, same_state}
use Rattle.lucy_runner.proofs.BlockLaws.{block_of, block_stands, numbers_grown}
use Rattle.lucy_runner.proofs.BlockOutputs.{block_joins}
use Rattle.lucy_runner.proofs.FinishedLaws.{sound_of}
use Rattle.lucy_runner.proofs.MayLaws.{IsAsked}
use Rattle.lucy_runner.proofs.CrewLaws.{still_held}
use Rattle.lucy_runner.proofs.RingLaws.{view_by, rings_stand, one_list}
use Rattle.lucy_runner.proofs.SpareLaws.{Spare, same_seen, spared_numbers, spared_stands}

-- what an output takes from now on goes on where it stood
abbrev pub GoesOn : Seen → Seen → ℕ → Type 0
GoesOn old now before = (number a : ℕ) (actor : Actor) (picks : List ℕ) → IsOutputOf old.net number a actor → CanRun now picks →
    (state_of (after_picks now picks)).took (first_ring actor) ≡ (state_of old).took (first_ring actor) ++ drop (ones_to actor.firing before) ((state_of (after_picks now picks)).took (first_ring actor))

-- a runner that stood in the one state stands in the other with the same actors, and its outputs up to a horizon were carried away
pub record IsMore (old now : Seen) (before instants : ℕ) (crew grown : List (List Part)) (places : List Place) (ends : List Ends) (added : List (List ℤ)) : Type 0 where
  pub stands : IsStanding now before grown places ends
  pub seen : now ≡ grown_seen old added instants
  pub same : IsSame (state_of now) (state_of old)
  pub joined : GoesOn old now before
  pub kept : actors_by grown ≡ actors_by crew

turned_same : (b : Block) → IsSame (last b) (first b)
turned_same b = record { done = λ a. sym ((same_state b).done a); gave = λ r. sym ((same_state b).gave r); took = λ r. sym ((same_state b).took r) }

more_is : (net : Net) (schedule : Timetable) (ops : List Operator) (before old instants : ℕ) (crew grown : List (List Part)) (places : List Place) (ends : List Ends) (added : List (List ℤ)) →
    IsStanding (seen_by net schedule ops old crew places) before crew places ends → IsAsked (seen_by net schedule ops old crew places) instants added → HaveGrown crew grown added instants →
    IsMore (seen_by net schedule ops old crew places) (seen_by net schedule ops instants grown places) old instants crew grown places ends added
more_is net schedule ops before old instants crew grown places ends added standing asked grows =
    let now : Seen = seen_by net schedule ops instants grown places in
    let was : Seen = seen_by net schedule ops old crew places in
    let b : Block = block_of net schedule ops before old instants crew grown places ends added standing asked.finished grows asked.later asked.early asked.supplied in
    let both : IsStanding now old grown places ends × (now ≡ grown_seen was added instants) = block_stands net schedule ops before old instants crew grown places ends added standing asked.finished grows asked.later asked.early asked.supplied in
    let to : now ≡ then b = both.1 in
    let sound : IsSound (then b) = subst IsSound to (sound_of net schedule ops instants old grown places ends both.0) in
    let goes : GoesOn was (then b) old = λ number a actor picks out run. block_joins b number a actor picks sound out run in
    record {
      stands = both.0;
      seen = to;
      same = subst (λ (s : Seen). IsSame (state_of s) (state_of was)) (sym to) (turned_same b);
      joined = subst (λ (s : Seen). GoesOn was s old) (sym to) goes;
      kept = still_held crew grown (numbers_grown b);
    }

-- so does a runner whose seats were written back
pub more_here : (net : Net) (schedule : Timetable) (ops : List Operator) (before old instants : ℕ) (seats entry grown last : List Seat) (places : List Place) (ends : List Ends) (added : List (List ℤ)) →
    IsStanding (seen_by net schedule ops old (crew_of seats) places) before (crew_of seats) places ends → IsAsked (seen_by net schedule ops old (crew_of seats) places) instants added →
    entry ≡ seats → HaveGrown (crew_of entry) (crew_of grown) added instants → last ≡ grown →
    IsMore (seen_by net schedule ops old (crew_of seats) places) (seen_by net schedule ops instants (crew_of last) places) old instants (crew_of seats) (crew_of last) places ends added
more_here net schedule ops before old instants seats entry grown last places ends added standing asked value grows back =
    subst (λ (xs : List Seat). IsMore (seen_by net schedule ops old (crew_of seats) places) (seen_by net schedule ops instants (crew_of xs) places) old instants (crew_of seats) (crew_of xs) places ends added) (sym back)
    (more_is net schedule ops before old instants (crew_of seats) (crew_of grown) places ends added standing asked (subst (λ (xs : List Seat). HaveGrown (crew_of xs) (crew_of grown) added instants) value grows))

-- a runner after room was made stands with the same actors, and the same is seen
pub record IsRoomy (net : Net) (schedule : Timetable) (ops : List Operator) (instants before : ℕ) (seats last : List Seat) (places : List Place) (ends : List Ends) : Type 0 where
  pub stands : IsStanding (seen_by net schedule ops instants (crew_of last) places) before (crew_of last) places ends
  pub seen : seen_by net schedule ops instants (crew_of last) places ≡ seen_by net schedule ops instants (crew_of seats) places
  pub kept : actors_by (crew_of last) ≡ actors_by (crew_of seats)

pub roomy_here : (net : Net) (schedule : Timetable) (ops : List Operator) (instants before : ℕ) (seats entry spared last : List Seat) (places : List Place) (ends : List Ends) →
    IsStanding (seen_by net schedule ops instants (crew_of seats) places) before (crew_of seats) places ends → entry ≡ seats → HaveSpared (crew_of entry) (crew_of spared) → last ≡ spared →
    IsRoomy net schedule ops instants before seats last places ends
roomy_here net schedule ops instants before seats entry spared last places ends standing value has back =
    let spares : HaveSpared (crew_of seats) (crew_of spared) = subst (λ (xs : List Seat). HaveSpared (crew_of xs) (crew_of spared)) value has in
    let x : Spare = record { net = net; schedule = schedule; ops = ops; instants = instants; before = before; crew = crew_of seats; spared = crew_of spared; places = places; ends = ends; standing = standing; spares = spares } in
    subst (λ (xs : List Seat). IsRoomy net schedule ops instants before seats xs places ends) (sym back) (record { stands = spared_stands x; seen = same_seen x; kept = still_held (crew_of seats) (crew_of spared) (spared_numbers (crew_of seats) (crew_of spared) spares) })

-- what contracts see of it is the same
pub roomy_view : (net : Net) (schedule : Timetable) (ops : List Operator) (instants before : ℕ) (seats later : List Seat) (places : List Place) (ends : List Ends) →
    IsStanding (seen_by net schedule ops instants (crew_of seats) places) before (crew_of seats) places ends → IsRoomy net schedule ops instants before seats later places ends →
    view_by (seen_by net schedule ops instants (crew_of later) places) before (rings_by (crew_of later) places net.rings ends) (actors_by (crew_of later))
    ≡ view_by (seen_by net schedule ops instants (crew_of seats) places) before (rings_by (crew_of seats) places net.rings ends) (actors_by (crew_of seats))
roomy_view net schedule ops instants before seats later places ends standing roomy =
    let was : Seen = seen_by net schedule ops instants (crew_of seats) places in
    let now : Seen = seen_by net schedule ops instants (crew_of later) places in
    let old : List RingView = rings_by (crew_of seats) places net.rings ends in
    let new : List RingView = rings_by (crew_of later) places net.rings ends in
    let rings : new ≡ old = one_list was now old new (rings_stand was before (crew_of seats) places ends standing) (rings_stand now before (crew_of later) places ends roomy.stands) refl
    (λ r. ap (λ (s : Seen). held (state_of s) r) roomy.seen) in
    ap (λ (s : Seen). view_by s before new (actors_by (crew_of later))) roomy.seen ∙ ap (λ (rs : List RingView). view_by was before rs (actors_by (crew_of later))) rings
    ∙ ap (view_by was before old) roomy.kept

-- and of a runner with more to do nothing changes but what is to be done
pub more_view : (net : Net) (schedule : Timetable) (ops : List Operator) (before old instants : ℕ) (seats later : List Seat) (places : List Place) (ends : List Ends) (added : List (List ℤ)) →
    IsStanding (seen_by net schedule ops old (crew_of seats) places) before (crew_of seats) places ends →
    IsMore (seen_by net schedule ops old (crew_of seats) places) (seen_by net schedule ops instants (crew_of later) places) old instants (crew_of seats) (crew_of later) places ends added →
    view_by (seen_by net schedule ops instants (crew_of later) places) old (rings_by (crew_of later) places net.rings ends) (actors_by (crew_of later))
    ≡ view_by (grown_seen (seen_by net schedule ops old (crew_of seats) places) added instants) old (rings_by (crew_of seats) places net.rings ends) (actors_by (crew_of seats))
more_view net schedule ops before old instants seats later places ends added standing more =
    let was : Seen = seen_by net schedule ops old (crew_of seats) places in
    let now : Seen = seen_by net schedule ops instants (crew_of later) places in
    let first : List RingView = rings_by (crew_of seats) places net.rings ends in
    let new : List RingView = rings_by (crew_of later) places net.rings ends in
    let rings : new ≡ first = one_list was now first new (rings_stand was before (crew_of seats) places ends standing) (rings_stand now old (crew_of later) places ends more.stands) refl
    (λ r. held_same (state_of now) (state_of was) r more.same) in
    ap (λ (s : Seen). view_by s old new (actors_by (crew_of later))) more.seen ∙ ap (λ (rs : List RingView). view_by (grown_seen was added instants) old rs (actors_by (crew_of later))) rings
    ∙ ap (view_by (grown_seen was added instants) old first) more.kept
