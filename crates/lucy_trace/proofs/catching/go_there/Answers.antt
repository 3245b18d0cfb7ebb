use Rattle.std.proofs.Common.{ℕ, ◌≡◌, List, length, subst, arith}
use Rattle.std.specs.Prelude.{vec_capacity}
use Rattle.std.proofs.lemmas.Bool.{ltb-false}
use Rattle.lucy_stream.proofs.TotalLaws.{total_le}
use Rattle.lucy_core.specs.Seen.{Seen, CanGoOn, done_of}
use Rattle.lucy_trace.specs.Steps.{HasBeenLed, all_of}
use Rattle.lucy_trace.proofs.CatchingLaws.{HasRuns, falls, ahead_most, gone_none, gone_length, gone_still, arrived, gone_total, gone_further, room_left}
use Rattle.lucy_trace.proofs.catching.go_there.Goals as goal

pub loop-moved-init : goal.loop-moved-init
loop-moved-init g c =
    let first : Seen = c.args.core.now in
    let law : HasRuns first = record { counts = c.runs_go_on.ensures.counts; actors = c.runs_go_on.ensures.actors; joined = c.runs_go_on.ensures.joined } in
    record {
      on = gone_none c.args.counts.now first c.args.picks.now.items (ahead_most c.args.counts.now first law c.requires.ahead);
      room = omega arith;
      stopped = λ e. absurd (cc);
    }

pub pass-requires-clause-room : goal.pass-requires-clause-room
pass-requires-clause-room g c κs within =
    let first : Seen = c.args.core.now in
    let law : HasRuns first = record { counts = c.runs_go_on.ensures.counts; actors = c.runs_go_on.ensures.actors; joined = c.runs_go_on.ensures.joined } in
    room_left c.args.counts.now first c.loop-moved.core c.args.picks.now.items c.loop-moved.picks.items law c.loop-moved.invariant.on (vec_capacity c.args.picks.now) (vec_capacity c.loop-moved.picks) c.requires.room c.loop-moved.invariant.room

pub loop-moved-smaller : goal.loop-moved-smaller
loop-moved-smaller g c =
    let first : Seen = c.args.core.now in
    let law : HasRuns first = record { counts = c.runs_go_on.ensures.counts; actors = c.runs_go_on.ensures.actors; joined = c.runs_go_on.ensures.joined } in
    let counts = c.args.counts.now in
    let xs : List ℕ = c.args.picks.now.items in
    let ys : List ℕ = c.loop-moved.picks.items in
    let zs : List ℕ = c.pass.new.picks.items in
    let on : HasBeenLed counts first c.loop-moved.core xs ys = c.loop-moved.invariant.on in
    let further : HasBeenLed counts first c.pass.new.core xs zs = gone_further counts first c.loop-moved.core xs ys law on c.pass.new.core zs c.pass.ensures.on in
    let was = gone_total counts first c.loop-moved.core xs ys law on in
    let now = gone_total counts first c.pass.new.core xs zs law further in
    falls (all_of first counts) (all_of first c.loop-moved.core.done) (all_of first c.pass.new.core.done) c.len-before.result c.len.result c.loop-moved.moved c.loop-moved-test.true
    (omega (arith, was, now, gone_length counts first c.loop-moved.core xs ys on, gone_length counts first c.pass.new.core xs zs further, c.len-before.ensures, c.len.ensures))
    (total_le (length first.net.actors) (done_of c.pass.new.core.done) (done_of counts) further.most)
    (omega (arith, gone_length counts c.loop-moved.core c.pass.new.core ys zs c.pass.ensures.on, c.len-before.ensures, c.len.ensures))

pub loop-moved-preserved : goal.loop-moved-preserved
loop-moved-preserved g c =
    let first : Seen = c.args.core.now in
    let law : HasRuns first = record { counts = c.runs_go_on.ensures.counts; actors = c.runs_go_on.ensures.actors; joined = c.runs_go_on.ensures.joined } in
    let counts = c.args.counts.now in
    let ys : List ℕ = c.loop-moved.picks.items in
    let zs : List ℕ = c.pass.new.picks.items in
    record {
      on = gone_further counts first c.loop-moved.core c.args.picks.now.items ys law c.loop-moved.invariant.on c.pass.new.core zs c.pass.ensures.on;
      room = omega (arith, c.loop-moved.invariant.room, c.pass.ensures.room);
      stopped = λ e can.
          (let none : length zs ≡ length ys =
          omega (arith, ltb-false c.len-before.result c.len.result e, gone_length counts c.loop-moved.core c.pass.new.core ys zs c.pass.ensures.on, c.len-before.ensures, c.len.ensures) in
          let still : c.pass.new.core ≡ c.loop-moved.core = gone_still counts c.loop-moved.core c.pass.new.core ys zs c.pass.ensures.on none in
          c.pass.ensures.stopped none (subst (λ (s : Seen). CanGoOn s counts) still can));
    }

pub returns-clause-there : goal.returns-clause-there
returns-clause-there g c =
    arrived c.args.counts.now c.args.core.now c.loop-moved.core c.args.picks.now.items c.loop-moved.picks.items c.loop-moved.invariant.on
    c.requires.ahead c.runs_go_on.ensures.towards (c.loop-moved.invariant.stopped c.loop-moved-test.false)
