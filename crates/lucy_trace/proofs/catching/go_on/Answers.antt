use Rattle.std.proofs.Common.{◌≡◌, length, ap, sym, ◌∙◌, subst, arith}
use Rattle.std.specs.Prelude.{vec_capacity}
use Rattle.lucy_core.specs.Seen.{Seen, CanStep, done_of}
use Rattle.lucy_trace.specs.Steps.{HasRoomForEvents}
use Rattle.lucy_trace.proofs.CatchingLaws.{HasRuns, gone_actors, gone_one, gone_step, gone_still, room_left, room_one}
use Rattle.lucy_trace.proofs.catching.go_on.Goals as goal

pub step_to-requires-clause-room : goal.step_to-requires-clause-room
unfolding done_of
step_to-requires-clause-room g c κs within less =
    let first : Seen = c.args.core.now in
    let law : HasRuns first = record { counts = c.runs_go_on.ensures.counts; actors = c.runs_go_on.ensures.actors; joined = c.runs_go_on.ensures.joined } in
    let on = c.steps.invariant.on in
    let fits : HasRoomForEvents c.args.counts.now c.steps.core (length c.steps.picks.items) (vec_capacity c.steps.picks) =
    room_left c.args.counts.now first c.steps.core c.args.picks.now.items c.steps.picks.items law on (vec_capacity c.args.picks.now) (vec_capacity c.steps.picks) c.requires.room c.steps.invariant.room in
    room_one c.args.counts.now c.steps.core c.args.actor (length c.steps.picks.items) (vec_capacity c.steps.picks) on.most
    (omega (arith, c.requires.there, c.requires.count, gone_actors c.args.counts.now first c.steps.core c.args.picks.now.items c.steps.picks.items on)) fits less

pub steps-smaller : goal.steps-smaller
unfolding done_of
steps-smaller g c =
    let first : Seen = c.args.core.now in
    let law : HasRuns first = record { counts = c.runs_go_on.ensures.counts; actors = c.runs_go_on.ensures.actors; joined = c.runs_go_on.ensures.joined } in
    let went = c.steps-test.true in
    omega (
      arith,
      c.step_to.ensures.fewer went,
      gone_step c.args.counts.now first c.steps.core c.args.picks.now.items c.steps.picks.items law c.steps.invariant.on c.step_to.new.core c.args.actor
          (c.step_to.ensures.can went) (c.step_to.ensures.moved went).0,
    )

pub steps-preserved : goal.steps-preserved
unfolding done_of
steps-preserved g c =
    let first : Seen = c.args.core.now in
    let law : HasRuns first = record { counts = c.runs_go_on.ensures.counts; actors = c.runs_go_on.ensures.actors; joined = c.runs_go_on.ensures.joined } in
    let went = c.steps-test.true in
    record {
      on = gone_one c.args.counts.now first c.steps.core c.args.picks.now.items c.steps.picks.items law c.steps.invariant.on c.step_to.new.core c.step_to.new.picks.items c.args.actor
          (c.step_to.ensures.can went) (c.step_to.ensures.fewer went) (c.step_to.ensures.moved went).0 (c.step_to.ensures.moved went).1;
      room = omega (arith, c.steps.invariant.room, c.step_to.ensures.room);
    }

pub returns-clause-stopped : goal.returns-clause-stopped
unfolding done_of
returns-clause-stopped g c =
    let first : Seen = c.args.core.now in
    let stayed = c.step_to.ensures.stayed c.steps-test.false in
    λ same less can.
    (let still : c.steps.core ≡ first = gone_still c.args.counts.now first c.steps.core c.args.picks.now.items c.steps.picks.items c.steps.invariant.on
    (ap (λ (v : _). length v.items) (sym stayed.1) ∙ same) in
    c.step_to.ensures.stopped c.steps-test.false (omega (arith, less, ap (λ (s : Seen). done_of s.done c.args.actor) still)) (subst (λ (s : Seen). CanStep s c.args.actor) (sym still) can))
