use Rattle.std.proofs.Common.{◌<◌, List, ℕ, subst}
use Rattle.lucy_word.proofs.Results.{on_ok as always_ok}
use Rattle.lucy_text.specs.Outside.{Writes, Fails}
use Rattle.lucy_core.specs.Seen.{Seen}
use Rattle.lucy_runner.specs.Left.{events_left}
use Rattle.lucy_trace.specs.Traces.{round_line}
use Rattle.lucy_trace.proofs.CatchingLaws.{HasRuns}
use Rattle.lucy_trace.specs.Together.{AreTogether}
use Rattle.lucy_trace.specs.Progress.{IsRoundPrinted}
use Rattle.lucy_trace.proofs.RoundLaws.{on_ok}
use Rattle.lucy_trace.proofs.FollowingLaws.{less_left, line_fails}
use Rattle.lucy_trace.proofs.following.trace_round.Goals as goal

pub returns-clause-printed : goal.returns-clause-printed
returns-clause-printed g c =
    let was = g.K.Sink.seen c.args.out.now in
    let is = g.K.Sink.seen c.print.new.out in
    let led = c.in_ok-picks.ensures.run in
    on_ok c.print.result (Writes was is (round_line c.deref.result.now)) (IsRoundPrinted c.args.core.now c.round.new.core was is) c.print.ensures.ok
    (λ written. record {
      picks = c.in_ok-picks.picks.items;
      some = c.in_ok-picks.ensures.some;
      run = led.0;
      here = led.1;
      written = subst (λ (picks : List ℕ). Writes was is (round_line picks)) c.deref.ensures.value written;
    })

pub returns-clause-together : goal.returns-clause-together
returns-clause-together g c = always_ok c.print.result (AreTogether c.round.new.core c.round.new.runner.seen) c.in_ok-picks.ensures.together

pub returns-clause-less : goal.returns-clause-less
returns-clause-less g c =
    let first : Seen = c.args.core.now in
    let now : Seen = c.round.new.core in
    let law : HasRuns first = record { counts = c.runs_go_on.ensures.counts; actors = c.runs_go_on.ensures.actors; joined = c.runs_go_on.ensures.joined } in
    let later : HasRuns now = record { counts = c.runs_go_on-2.ensures.counts; actors = c.runs_go_on-2.ensures.actors; joined = c.runs_go_on-2.ensures.joined } in
    let led = c.in_ok-picks.ensures.run in
    always_ok c.print.result (events_left now < events_left first)
    (less_left first now c.in_ok-picks.picks.items law later c.runs_go_on-2.ensures.end led.0 led.1 c.in_ok-picks.ensures.some)

pub returns-clause-failed : goal.returns-clause-failed
returns-clause-failed g c = λ e.
    (let led = c.in_ok-picks.ensures.run in
    line_fails c.args.core.now c.round.new.core c.in_ok-picks.picks.items (g.K.Sink.seen c.args.out.now) (g.K.Sink.seen c.print.new.out)
    c.runs_go_on.ensures.joined led.0 led.1 c.in_ok-picks.ensures.some c.runs_go_on-2.ensures.end
    (subst (λ (picks : List ℕ). Fails (g.K.Sink.seen c.args.out.now) (g.K.Sink.seen c.print.new.out) (round_line picks)) c.deref.ensures.value (c.print.ensures.failed e)))
