-- The state after a round is reached from the one before it, by as many events as the workers made moves.
use Rattle.std.proofs.Common.{ℕ, ◌+◌, ◌≤◌, ◌≡◌, List, length, get_or, ap, sym, refl, ◌∙◌, inl, inr, arith}
use Rattle.std.specs.Prelude.{Some, None, slice_get, sum_by}
use Rattle.std.proofs.lemmas.Bool.{cases_lt}
use Rattle.std.proofs.lemmas.List.{length-map, ext_get_or}
use Rattle.std.proofs.lemmas.Option.{slice_get_within, get_or_from_slice_get}
use Rattle.lucy_host.specs.Operators.{kinds_of}
use Rattle.lucy_stream.specs.Runs.{Leads, between}
use Rattle.lucy_stream.specs.States.{Reaches}
use Rattle.lucy_stream.specs.Totals.{total, OnlyFirst}
use Rattle.lucy_stream.proofs.AlikeLaws.{IsRun-same, after-same}
use Rattle.lucy_stream.proofs.EventLaws.{events-done}
use Rattle.lucy_stream.proofs.ReachLaws.{converse}
use Rattle.lucy_stream.proofs.TotalLaws.{events_counted}
use Rattle.lucy_net.proofs.NetLaws.{only_planned}
use Rattle.lucy_core.specs.Seen as core
use Rattle.lucy_core.specs.Seen.{machine_on, done_of}
use Rattle.lucy_core.proofs.PickLaws.{more_after, more_length}
use Rattle.lucy_worker.specs.declared.part.Part.{Part}
use Rattle.lucy_worker.specs.Parts as parts
use Rattle.lucy_worker.specs.Turns.{HasRun, done_by}
use Rattle.lucy_runner.specs.declared.place.Place.{Place}
use Rattle.lucy_runner.specs.Crews.{part_of, done_in, done_at_place, done_list, AreShared}
use Rattle.lucy_runner.specs.Standing.{AreCovered}
use Rattle.lucy_runner.specs.Turns.{HasTurned}
use Rattle.lucy_runner.proofs.PlaceLaws.{part_is, no_part}
use Rattle.lucy_runner.proofs.CrewLaws.{done_is, all_counted, HaveNumbers, still_shared, still_covered}
use Rattle.lucy_runner.proofs.Rounds.{Round, engine, low, high, Goes, goes}
use Rattle.lucy_runner.proofs.LowLaws.{engine_is, wired, local, low_state, low_done, seen_done}
use Rattle.lucy_runner.proofs.HighLaws.{high_state}

-- the events of a round, in the order of the schedule
abbrev pub picks_of : Round → List ℕ
picks_of x = between (low x).done (high x).done (core.order_of x.seen)

further : (x : Round) (a : ℕ) → (low x).done a ≤ (high x).done a
further x a = elim (cases_lt a (length x.seen.net.actors)) [
  | inl l ↦
      let w : Goes x a = goes x a l in
      omega (arith, low_done x a, ap done_in w.at, ap done_in w.turn.at, w.turn.run.further)
  | inr past ↦
      let before : part_of x.crew x.places a ≡ None = no_part x.crew x.places a (omega (arith, x.standing.placed)) in
      omega (arith, low_done x a, ap done_in before)
]

pub reaches : (x : Round) → Reaches (engine x) (low x) (picks_of x) (high x)
unfolding machine_on
reaches x = converse (engine x) (low x) (high x) (core.order_of x.seen) (wired x) (local x) (engine_is x).whole (low_state x) (high_state x) (further x)

leads : (x : Round) → Leads (engine x).sys (low x).done (picks_of x) (high x).done
leads x = record { run = (reaches x).run; ends = λ a. sym (events-done (engine x) (low x) (picks_of x) a) ∙ (reaches x).ends.done a }

pub can_run : (x : Round) → core.CanRun x.seen (picks_of x)
unfolding machine_on
can_run x = IsRun-same (engine x).sys (low x).done (done_of x.seen.done) (picks_of x) (seen_done x) (reaches x).run

-- the counts after the round
pub met_done : (x : Round) (a : ℕ) → done_in (part_of x.met x.places a) ≡ (high x).done a
met_done x a = elim (cases_lt a (length x.seen.net.actors)) [
  | inl l ↦
      let w : Goes x a = goes x a l in
      ap done_in w.meet.at ∙ ap parts.done_of w.meet.rest.rest ∙ sym (ap done_in w.turn.at)
  | inr past ↦
      let l : length x.places ≤ a = omega (arith, x.standing.placed) in
      ap done_in (no_part x.met x.places a l) ∙ sym (ap done_in (no_part x.turned x.places a l))
]

pub done_after : (x : Round) (a : ℕ) → done_of (core.more_done x.seen.done (picks_of x)) a ≡ (high x).done a
done_after x a =
    let len : length x.seen.done ≡ length x.seen.net.actors = x.as_many ∙ x.standing.placed in
    more_after x.seen.net (core.machine_of x.seen) (core.order_of x.seen) x.seen.inputs (kinds_of x.seen.operators) x.seen.instants (engine_is x) x.seen.done (picks_of x) len (can_run x) a
    ∙ after-same (done_of x.seen.done) (low x).done (picks_of x) (λ b. sym (seen_done x b)) a
    ∙ (leads x).ends a

at_count : (xs : List ℕ) (a : ℕ) → done_of xs a ≡ get_or xs a 0
unfolding done_of
at_count xs a = refl

-- so they are those after the events
pub list_after : (x : Round) → done_list x.met x.places ≡ core.more_done x.seen.done (picks_of x)
list_after x =
    let len : length (done_list x.met x.places) ≡ length (core.more_done x.seen.done (picks_of x)) =
    length-map x.places (done_at_place x.met) ∙ sym (more_length x.seen.net (core.machine_of x.seen) (core.order_of x.seen) x.seen.inputs (kinds_of x.seen.operators) x.seen.instants (engine_is x) x.seen.done (picks_of x) ∙ x.as_many) in
    ext_get_or 0 (done_list x.met x.places) (core.more_done x.seen.done (picks_of x)) len (λ a l.
    sym (at_count (done_list x.met x.places) a) ∙ done_is x.met x.places a ∙ met_done x a ∙ sym (done_after x a) ∙ at_count (core.more_done x.seen.done (picks_of x)) a)

-- the parts stay those of the same actors
pub numbers_turned : (x : Round) → HaveNumbers x.crew x.turned
numbers_turned x = record {
  seats = x.turns.as_many;
  counts = λ s ps qs e f. (x.turns.each s ps qs e f).run.as_many;
  number = λ s k ps qs p q e f c d.
      (let one : HasTurned (kinds_of x.seen.operators) ps qs = x.turns.each s ps qs e f in
      let run : HasRun (kinds_of x.seen.operators) (get_or ps k p) (get_or qs k p) = one.run.run k p (slice_get_within ps k p c) in
      sym (ap (λ (y : Part). y.number) (get_or_from_slice_get qs k q p d)) ∙ run.number ∙ ap (λ (y : Part). y.number) (get_or_from_slice_get ps k p p c));
}

pub numbers_met : (x : Round) → HaveNumbers x.turned x.met
numbers_met x = record {
  seats = x.meets.rest.seats;
  counts = x.meets.rest.counts;
  number = λ s k ps qs p q e f c d. ap (λ (y : Part). y.number) (x.meets.rest.parts s k ps qs p q e f c d).rest;
}

pub turned_shared : (x : Round) → AreShared x.turned (length x.seen.net.actors)
turned_shared x = still_shared x.crew x.turned (length x.seen.net.actors) (numbers_turned x) x.standing.shared

pub turned_covered : (x : Round) → AreCovered x.turned x.places
turned_covered x = still_covered x.crew x.turned x.places (numbers_turned x) x.standing.covered

-- a part at its place is that of its actor
pub at_number : (crew : List (List Part)) (places : List Place) (s k : ℕ) (ps : List Part) (p : Part) → AreCovered crew places → slice_get crew s ≡ Some ps → slice_get ps k ≡ Some p → part_of crew places p.number ≡ Some p
at_number crew places s k ps p covered e f = part_is crew places p.number (record { seat = s; part = k }) ps p (covered s k ps p e f) e f

-- as many events as moves
pub picks_counted : (x : Round) → length (picks_of x) ≡ x.moves
picks_counted x =
    let n : ℕ = length x.seen.net.actors in
    let only : OnlyFirst (engine x).sys n = only_planned x.seen.net x.seen.instants in
    let all : total n (high x).done ≡ total n (low x).done + length (picks_of x) = events_counted (engine x).sys n (low x).done (high x).done (picks_of x) only (leads x) in
    let first : sum_by done_by x.crew ≡ total n (low x).done = all_counted x.crew n (low x).done x.standing.shared (λ s k ps p e f.
    low_done x p.number ∙ ap done_in (at_number x.crew x.places s k ps p x.standing.covered e f)) in
    let last : sum_by done_by x.turned ≡ total n (high x).done = all_counted x.turned n (high x).done (turned_shared x) (λ s k ps p e f.
    ap done_in (at_number x.turned x.places s k ps p (turned_covered x) e f)) in
    omega (arith, x.turns.counted)
