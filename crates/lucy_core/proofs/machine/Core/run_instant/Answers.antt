use Rattle.std.proofs.Common.{ℕ, ◌+◌, ◌<◌, ◌≡◌, length, get_or, ap, subst, sym, ◌∙◌, arith}
use Rattle.std.specs.Prelude.{[], slice_index, slice_index_or}
use Rattle.lucy_host.specs.Operators.{kinds_of}
use Rattle.lucy_net.specs.Schedules.{row_of, events_at}
use Rattle.lucy_core.specs.declared.machine.Core.TheInside.{Inside}
use Rattle.lucy_core.specs.contracts.machine.Core.{the_view}
use Rattle.lucy_core.specs.Seen.{Seen, machine_of, order_of, done_of, stepped, CanStep}
use Rattle.lucy_core.proofs.InsideLaws.{sound_of}
use Rattle.lucy_core.proofs.PickLaws.{turn_possible, run_front}
use Rattle.lucy_core.proofs.OpenLaws.{IsSound, next_picks}
use Rattle.lucy_core.proofs.machine.Core.run_instant.Goals as goal

-- the events of the row are those of the instant
row_events : (x : Inside) (seen : Seen) (instant row : ℕ) → the_view x ≡ seen → row ≡ row_of x.schedule instant → slice_index_or seen.schedule.orders row [] ≡ events_at seen.schedule instant
row_events x seen instant row view is =
    subst (λ (s : Seen). slice_index_or s.schedule.orders row [] ≡ events_at s.schedule instant) view (ap (λ r. slice_index_or x.schedule.orders r []) is)

pub event_count-i-end-requires : goal.event_count-i-end-requires
event_count-i-end-requires g c = subst (λ (s : Seen). c.row-row.result < length s.schedule.orders) c.self.view_is c.row-row.ensures.there

pub event-actor-requires-clause-row : goal.event-actor-requires-clause-row
event-actor-requires-clause-row g c =
    subst (λ (s : Seen). c.row-row.result < length s.schedule.orders) (sym c.loop-i.invariant) (subst (λ (s : Seen). c.row-row.result < length s.schedule.orders) c.self.view_is c.row-row.ensures.there)

pub event-actor-requires-clause-there : goal.event-actor-requires-clause-there
event-actor-requires-clause-there g c =
    subst (λ (s : Seen). c.loop-i.i < length (slice_index_or s.schedule.orders c.row-row.result [])) (sym c.loop-i.invariant) (omega (arith, c.loop-i-test.true, c.event_count-i-end.ensures))

pub step-requires-clause-kinds : goal.step-requires-clause-kinds
step-requires-clause-kinds g c κs held = c.requires.kinds ∙ ap (λ (s : Seen). kinds_of s.operators) (sym c.loop-i.invariant)

pub step-requires-clause-can : goal.step-requires-clause-can
step-requires-clause-can g c κs held =
    let seen : Seen = c.args.self.now in
    let all : IsSound seen = sound_of c.self.inside c.args.self.now c.self.invariant c.self.view_is in
    let here = c.loop-i.invariant in
    let xs = events_at seen.schedule c.args.instant in
    let row : slice_index_or seen.schedule.orders c.row-row.result [] ≡ xs = row_events c.self.inside seen c.args.instant c.row-row.result c.self.view_is c.row-row.ensures.is in
    let l : c.loop-i.i < length xs = omega (arith, c.loop-i-test.true, c.event_count-i-end.ensures, ap length row) in
    let ev : c.event-actor.result ≡ get_or xs c.loop-i.i 0 =
    c.event-actor.ensures ∙ ap (λ (s : Seen). slice_index (slice_index_or s.schedule.orders c.row-row.result []) c.loop-i.i) here ∙ ap (λ ys. slice_index ys c.loop-i.i) row in
    let turn = turn_possible seen.net (machine_of seen) (order_of seen) seen.inputs (kinds_of seen.operators) seen.instants all.machine seen.done xs c.loop-i.i all.count l
    (run_front (machine_of seen).sys (done_of seen.done) xs c.loop-i.i c.requires.run) (run_front (machine_of seen).sys (done_of seen.done) xs (c.loop-i.i + 1) c.requires.run) in
    subst (λ a. CanStep c.loop-i.self a) (sym ev) (subst (λ (s : Seen). CanStep s (get_or xs c.loop-i.i 0)) (sym here) turn)

pub loop-i-preserved : goal.loop-i-preserved
loop-i-preserved g c =
    let seen : Seen = c.args.self.now in
    let here = c.loop-i.invariant in
    let xs = events_at seen.schedule c.args.instant in
    let row : slice_index_or seen.schedule.orders c.row-row.result [] ≡ xs = row_events c.self.inside seen c.args.instant c.row-row.result c.self.view_is c.row-row.ensures.is in
    let l : c.loop-i.i < length xs = omega (arith, c.loop-i-test.true, c.event_count-i-end.ensures, ap length row) in
    let ev : c.event-actor.result ≡ get_or xs c.loop-i.i 0 =
    c.event-actor.ensures ∙ ap (λ (s : Seen). slice_index (slice_index_or s.schedule.orders c.row-row.result []) c.loop-i.i) here ∙ ap (λ ys. slice_index ys c.loop-i.i) row in
    c.step.ensures ∙ ap (stepped c.loop-i.self) ev ∙ ap (λ (s : Seen). stepped s (get_or xs c.loop-i.i 0)) here ∙ next_picks seen xs c.loop-i.i l
