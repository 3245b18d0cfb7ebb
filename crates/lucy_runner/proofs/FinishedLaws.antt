-- When a runner is finished, and that its rounds lead there.
use Rattle.std.proofs.Common.{ℕ, ◌+◌, ◌<◌, ◌≡◌, ◌++◌, List, length, ap, sym, refl, ◌∙◌, subst, inl, inr, arith}
use Rattle.std.specs.Prelude.{◌↔◌, Some, slice_get}
use Rattle.std.proofs.lemmas.Bool.{cases_lt, cases_eq}
use Rattle.std.proofs.lemmas.List.{length-map}
use Rattle.std.proofs.lemmas.Option.{slice_get_within, slice_get_past}
use Rattle.lucy_host.specs.Operators.{Operator, kinds_of}
use Rattle.lucy_stream.specs.Runs.{after}
use Rattle.lucy_stream.specs.Schedules.{all_done}
use Rattle.lucy_stream.specs.Totals.{total}
use Rattle.lucy_stream.proofs.AlikeLaws.{IsRun-same}
use Rattle.lucy_stream.proofs.CountedLaws.{within_later}
use Rattle.lucy_stream.proofs.JoinedLaws.{run_joined}
use Rattle.lucy_stream.proofs.TotalLaws.{events_counted, total_le}
use Rattle.lucy_net.specs.declared.net.Net.{Net}
use Rattle.lucy_net.proofs.NetLaws.{only_planned}
use Rattle.lucy_net.specs.Schedules.{Timetable}
use Rattle.lucy_core.specs.Seen as core
use Rattle.lucy_core.specs.Seen.{Seen, CanRun, IsOver, after_picks, machine_on}
use Rattle.lucy_core.proofs.OpenLaws.{IsSound, joined_picks}
use Rattle.lucy_core.proofs.PickLaws.{more_after, more_length}
use Rattle.lucy_core.proofs.SeenLaws.{machine_is}
use Rattle.lucy_worker.specs.declared.part.Part.{Part}
use Rattle.lucy_worker.specs.Parts.{done_of, IsDone}
use Rattle.lucy_worker.proofs.PartLaws.{left_here}
use Rattle.lucy_worker.proofs.RoundLaws as parts
use Rattle.lucy_runner.specs.declared.place.Place.{Place}
use Rattle.lucy_runner.specs.declared.place.Ends.{Ends}
use Rattle.lucy_runner.specs.Crews.{done_in, done_at_place, seen_by}
use Rattle.lucy_runner.specs.Left.{events_left}
use Rattle.lucy_runner.specs.Standing.{carried, IsPartOf, IsStanding}
use Rattle.lucy_runner.specs.Rounds.{IsRoundTo}
use Rattle.lucy_runner.proofs.PlaceLaws.{IsFound, found, no_part, same_part}
use Rattle.lucy_runner.proofs.CrewLaws.{done_is}
use Rattle.lucy_runner.proofs.ReachLaws.{at_number}

-- what is seen of parts that stand may be seen of a core
pub sound_of : (net : Net) (schedule : Timetable) (ops : List Operator) (instants before : ℕ) (crew : List (List Part)) (places : List Place) (ends : List Ends) →
    IsStanding (seen_by net schedule ops instants crew places) before crew places ends → IsSound (seen_by net schedule ops instants crew places)
sound_of net schedule ops instants before crew places ends standing =
    let seen : Seen = seen_by net schedule ops instants crew places in
    record {
      fixed = standing.fixed;
      machine = machine_is net schedule seen.inputs ops instants standing.fixed;
      within = standing.within;
      count = length-map places (done_at_place crew) ∙ standing.placed;
    }

-- every part of every worker is done
abbrev pub AreDone : List (List Part) → Type 0
AreDone crew = (s k : ℕ) (parts : List Part) (p : Part) → slice_get crew s ≡ Some parts → slice_get parts k ≡ Some p → IsDone p

-- then every actor has done its list
pub over : (net : Net) (schedule : Timetable) (ops : List Operator) (instants before : ℕ) (crew : List (List Part)) (places : List Place) (ends : List Ends) →
    IsStanding (seen_by net schedule ops instants crew places) before crew places ends → AreDone crew → IsOver (seen_by net schedule ops instants crew places)
unfolding machine_on
over net schedule ops instants before crew places ends standing done a =
    let seen : Seen = seen_by net schedule ops instants crew places in
    elim (cases_lt a (length net.actors)) [
      | inl l ↦
          let is : IsPartOf seen before crew places a = standing.actors a l in
          let f : IsFound crew places a is.part = found crew places a is.part is.at in
          let all : done_of is.part ≡ length ((core.machine_of seen).sys.ops is.part.number) =
          parts.all_done (kinds_of ops) seen.inputs net instants (core.state_of seen) (carried seen before is.part) is.part is.stands (done f.place.seat f.place.part f.parts is.part f.seat f.part) in
          done_is crew places a ∙ ap done_in is.at ∙ all ∙ ap (λ b. length ((core.machine_of seen).sys.ops b)) is.number
      | inr past ↦
          let none : length ((core.machine_of seen).sys.ops a) ≡ 0 = ap (λ xs. length xs) ((machine_is net schedule seen.inputs ops instants standing.fixed).ops_none a (slice_get_past net.actors a past)) in
          done_is crew places a ∙ ap done_in (no_part crew places a (omega (arith, standing.placed))) ∙ sym none
    ]

-- and only then
over_done : (net : Net) (schedule : Timetable) (ops : List Operator) (instants before : ℕ) (crew : List (List Part)) (places : List Place) (ends : List Ends) →
    IsStanding (seen_by net schedule ops instants crew places) before crew places ends → IsOver (seen_by net schedule ops instants crew places) → AreDone crew
unfolding machine_on
over_done net schedule ops instants before crew places ends standing over s k parts p e f =
    let seen : Seen = seen_by net schedule ops instants crew places in
    let a : ℕ = p.number in
    let at = at_number crew places s k parts p standing.covered e f in
    let l : a < length net.actors = omega (arith, slice_get_within places a _ (standing.covered s k parts p e f), standing.placed) in
    let is : IsPartOf seen before crew places a = standing.actors a l in
    let same : is.part ≡ p = same_part crew places a a is.part p is.at at refl in
    subst IsDone same (elim (cases_lt is.part.state.fired is.part.state.quota) [
      | inr ended ↦ ended
      | inl going ↦
          let left : done_of is.part < length ((core.machine_of seen).sys.ops is.part.number) = left_here (kinds_of ops) seen.inputs net instants (core.state_of seen) (carried seen before is.part) is.part is.stands going in
          absurd (omega (arith, left, done_is crew places a, ap done_in is.at, over a, ap (λ b. length ((core.machine_of seen).sys.ops b)) is.number))
    ])

-- it is finished exactly where every part is done
pub finished_is : (net : Net) (schedule : Timetable) (ops : List Operator) (instants before : ℕ) (crew : List (List Part)) (places : List Place) (ends : List Ends) →
    IsStanding (seen_by net schedule ops instants crew places) before crew places ends →
    ((s k : ℕ) (parts : List Part) (p : Part) → slice_get crew s ≡ Some parts → slice_get parts k ≡ Some p → IsDone p) ↔ IsOver (seen_by net schedule ops instants crew places)
finished_is net schedule ops instants before crew places ends standing =
    (over net schedule ops instants before crew places ends standing, over_done net schedule ops instants before crew places ends standing)

-- the counts after events
counts_after : (seen : Seen) (picks : List ℕ) → IsSound seen → CanRun seen picks → (b : ℕ) → core.done_of (core.more_done seen.done picks) b ≡ after (core.done_of seen.done) picks b
counts_after seen picks all run b = more_after seen.net (core.machine_of seen) (core.order_of seen) seen.inputs (kinds_of seen.operators) seen.instants all.machine seen.done picks all.count run b

-- events lead from what a core may be to what it may be
pub sound_later : (seen : Seen) (picks : List ℕ) → IsSound seen → CanRun seen picks → IsSound (after_picks seen picks)
sound_later seen picks all run = record {
  fixed = all.fixed;
  machine = all.machine;
  within = within_later (core.machine_of seen).sys (core.done_of seen.done) (core.done_of (core.more_done seen.done picks)) picks all.within run (λ b. sym (counts_after seen picks all run b));
  count = more_length seen.net (core.machine_of seen) (core.order_of seen) seen.inputs (kinds_of seen.operators) seen.instants all.machine seen.done picks ∙ all.count;
}

-- events after events
pub runs_join : (seen : Seen) (xs ys : List ℕ) → IsSound seen → CanRun seen xs → CanRun (after_picks seen xs) ys → CanRun seen (xs ++ ys)
runs_join seen xs ys all first then =
    run_joined (core.machine_of seen).sys (core.done_of seen.done) xs ys first
    (IsRun-same (core.machine_of seen).sys (core.done_of (core.more_done seen.done xs)) (after (core.done_of seen.done) xs) ys (counts_after seen xs all first) then)

total_after : (seen : Seen) (picks : List ℕ) → IsSound seen → CanRun seen picks → total (length seen.net.actors) (core.done_of (core.more_done seen.done picks)) ≡ total (length seen.net.actors) (core.done_of seen.done) + length picks
unfolding machine_on
total_after seen picks all run =
    events_counted (core.machine_of seen).sys (length seen.net.actors) (core.done_of seen.done) (core.done_of (core.more_done seen.done picks)) picks (only_planned seen.net seen.instants)
    (record { run = run; ends = λ a. sym (counts_after seen picks all run a) })

left_after : (seen : Seen) (picks : List ℕ) → IsSound seen → CanRun seen picks → events_left (after_picks seen picks) + length picks ≡ events_left seen
unfolding events_left
left_after seen picks all run =
    let n : ℕ = length seen.net.actors in
    omega (arith, total_after seen picks all run, total_le n (core.done_of (core.more_done seen.done picks)) (all_done (core.machine_of seen).sys) (sound_later seen picks all run).within.listed)

-- a round before the end leaves less to do
pub less_left : (seen next : Seen) (moves : ℕ) → IsSound seen → IsRoundTo seen next moves → (IsOver seen → ⊥) → events_left next < events_left seen
less_left seen next moves all round going = elim (cases_eq moves 0) [
  | inl none ↦ absurd (going (round.none.0 none))
  | inr some ↦
      let less : events_left (after_picks seen round.picks) < events_left seen = omega (arith, left_after seen round.picks all round.run, round.count, some) in
      subst (λ (s : Seen). events_left s < events_left seen) (sym round.is) less
]

-- rounds have led from the one state to the other
pub record HaveLed (first now : Seen) : Type 0 where
  pub picks : List ℕ
  pub sound : IsSound first
  pub run : CanRun first picks
  pub is : now ≡ after_picks first picks

-- one round more
pub one_more_round : (first now next : Seen) (moves : ℕ) → HaveLed first now → IsRoundTo now next moves → HaveLed first next
one_more_round first now next moves led round =
    let run : CanRun (after_picks first led.picks) round.picks = subst (λ (s : Seen). CanRun s round.picks) led.is round.run in
    record {
      picks = led.picks ++ round.picks;
      sound = led.sound;
      run = runs_join first led.picks round.picks led.sound led.run run;
      is = round.is ∙ ap (λ (s : Seen). after_picks s round.picks) led.is ∙ joined_picks first led.picks round.picks;
    }

-- which leaves less to do
pub round_left : (first now next : Seen) (moves : ℕ) → HaveLed first now → IsRoundTo now next moves → (IsOver now → ⊥) →
    events_left next < events_left now
round_left first now next moves led round going =
    less_left now next moves (subst IsSound (sym led.is) (sound_later first led.picks led.sound led.run)) round going
