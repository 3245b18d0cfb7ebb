-- A turn of every worker that lasts until all actors are done, and the meeting behind it.
use Rattle.std.proofs.Common.{ℕ, suc, ◌-◌, ◌<◌, ◌≤◌, ◌≡◌, List, [], ◌∷◌, length, get_or, sym, ◌∙◌, subst, arith}
use Rattle.std.specs.Prelude.{Some, slice_get, sum_by}
use Rattle.std.proofs.lemmas.Option.{slice_get-get_or, slice_get_within}
use Rattle.std.proofs.lemmas.List.{length-map}
use Rattle.std.proofs.lemmas.List.Sums.{sum_by-cons}
use Rattle.lucy_host.specs.declared.kind.HostKind.{HostKind}
use Rattle.lucy_host.specs.Operators.{Operator}
use Rattle.lucy_net.specs.declared.net.Net.{Net}
use Rattle.lucy_net.specs.Schedules.{Timetable}
use Rattle.lucy_core.specs.Seen.{IsOver}
use Rattle.lucy_worker.specs.declared.part.Part.{Part}
use Rattle.lucy_worker.specs.Parts.{IsDone}
use Rattle.lucy_worker.specs.Turns.{HaveRun, done_by}
use Rattle.lucy_worker.proofs.Runs.{sums_le}
use Rattle.lucy_runner.specs.declared.place.Place.{Place}
use Rattle.lucy_runner.specs.declared.place.Ends.{Ends}
use Rattle.lucy_runner.specs.declared.seat.Seat.{Seat}
use Rattle.lucy_runner.specs.Crews.{seated, crew_of, seen_by}
use Rattle.lucy_runner.specs.Standing.{IsStanding}
use Rattle.lucy_runner.specs.Turns.{HaveTurned, AreButEnds}
use Rattle.lucy_runner.specs.Finishing.{HasFinished, HaveFinished}
use Rattle.lucy_runner.proofs.TurningLaws.{crew_get, done_at}
use Rattle.lucy_runner.proofs.FinishedLaws.{AreDone, over}
use Rattle.lucy_runner.proofs.StandingLaws.{back_in, written_back}

crew_more : (kinds : List HostKind) (before after : List Seat) → length after ≡ length before →
    ((k : ℕ) (d : Seat) → k < length before → HaveRun kinds (seated (get_or before k d)) (seated (get_or after k d))) →
    sum_by done_by (crew_of before) ≤ sum_by done_by (crew_of after)
crew_more kinds [] after len each = omega arith
crew_more kinds (x ∷ before) [] len each = absurd (omega arith)
crew_more kinds (x ∷ before) (y ∷ after) len each =
    let run : HaveRun kinds (seated x) (seated y) = each 0 x (omega arith) in
    let one : done_by (seated x) ≤ done_by (seated y) = sums_le (seated x) (seated y) run.as_many (λ k d l. (run.run k d l).further) in
    let rest : sum_by done_by (crew_of before) ≤ sum_by done_by (crew_of after) =
    crew_more kinds before after (omega arith) (λ k d l. each (suc k) d (omega arith)) in
    omega (arith, one, rest, sum_by-cons done_by (seated x) (crew_of before), sum_by-cons done_by (seated y) (crew_of after))

-- what holds seat by seat holds worker by worker
each_so : (before after : List Seat) (P : List Part → List Part → Type 0) (s : ℕ) → s < length before →
    ((k : ℕ) (d : Seat) → k < length before → P (seated (get_or before k d)) (seated (get_or after k d))) →
    (ps qs : List Part) → slice_get (crew_of before) s ≡ Some ps → slice_get (crew_of after) s ≡ Some qs → P ps qs
each_so [] after P s l each ps qs e f = absurd (omega arith)
each_so (x ∷ before) after P s l each ps qs e f =
    let one : P (seated (get_or (x ∷ before) s x)) (seated (get_or after s x)) = each s x l in
    subst (λ (p : List Part). P p qs) (crew_get (x ∷ before) s x ps e)
    (subst (λ (q : List Part). P (seated (get_or (x ∷ before) s x)) q) (crew_get after s x qs f) one)

-- it is a turn of every worker
pub finished_turned : (kinds : List HostKind) (before after : List Seat) → HaveFinished kinds before after →
    (moves : ℕ) × HaveTurned kinds (crew_of before) (crew_of after) moves
finished_turned kinds before after all =
    let more : sum_by done_by (crew_of before) ≤ sum_by done_by (crew_of after) =
    crew_more kinds before after all.as_many (λ k d l. (all.each k d l).turned.run) in (
      sum_by done_by (crew_of after) - sum_by done_by (crew_of before),
      record {
        as_many = length-map after seated ∙ all.as_many ∙ sym (length-map before seated);
        each = λ s ps qs e f.
            (let l : s < length before = omega (arith, slice_get_within (crew_of before) s ps e, length-map before seated) in
            (each_so before after (HasFinished kinds) s l all.each ps qs e f).turned);
        counted = omega (arith, more);
      },
    )

-- after which every part is done
pub finished_done : (kinds : List HostKind) (before after : List Seat) → HaveFinished kinds before after → AreDone (crew_of after)
finished_done kinds before after all = done_at after (λ k d l. (all.each k d (omega (arith, all.as_many))).done)

-- and stays so where ends meet
pub done_met : (turned met : List (List Part)) → AreButEnds turned met → AreDone turned → AreDone met
done_met turned met same done s k qs q e f =
    let less : s < length turned = omega (arith, slice_get_within met s qs e, same.seats) in
    let ps : List Part = get_or turned s [] in
    let here = slice_get-get_or turned s [] less in
    let inside : k < length ps = omega (arith, slice_get_within qs k q f, same.counts s ps qs here e) in
    let p : Part = get_or ps k q in
    let at = slice_get-get_or ps k q inside in
    subst IsDone (sym (same.parts s k ps qs p q here e at f).rest) (done s k ps p here at)

-- so that every actor has done its list, once a slice of the seats was written back
pub over_here : (net : Net) (schedule : Timetable) (ops : List Operator) (instants before n : ℕ) (seats met : List Seat) (places : List Place)
    (ends : List Ends) →
    IsStanding (seen_by net schedule ops instants (crew_of (back_in n met seats)) places) before (crew_of (back_in n met seats))
    places ends → length met ≡ n → AreDone (crew_of met) →
    IsOver (seen_by net schedule ops instants (crew_of (back_in n met seats)) places)
over_here net schedule ops instants before n seats met places ends standing len done =
    over net schedule ops instants before (crew_of (back_in n met seats)) places ends standing
    (subst (λ (xs : List Seat). AreDone (crew_of xs)) (sym (written_back n met seats len)) done)
