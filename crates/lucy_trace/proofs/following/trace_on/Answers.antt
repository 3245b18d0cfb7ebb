use Rattle.std.proofs.Common.{◌≡◌, length, refl, ap, sym, ◌∙◌, subst, arith}
use Rattle.lucy_text.specs.Outside.{Writes}
use Rattle.lucy_core.specs.Seen.{Seen}
use Rattle.lucy_trace.proofs.RoundLaws.{same_end}
use Rattle.lucy_trace.proofs.FollowingLaws.{none_printed, more_printed, all_printed, printing_fails, printing_stops}
use Rattle.lucy_trace.proofs.following.trace_on.Goals as goal

pub rounds-init : goal.rounds-init
rounds-init g c = record {
  printed = none_printed c.args.core.now (g.K.Sink.seen c.args.out.now);
  together = c.requires.together;
  operators = refl;
  crew = refl;
  count = c.requires.count;
  faults = omega arith;
}

pub rounds-preserved : goal.rounds-preserved
rounds-preserved g c =
    let printed = c.in-Ok.ensures.printed in
    record {
      printed = more_printed c.args.core.now c.rounds.core (g.K.Sink.seen c.args.out.now) (g.K.Sink.seen c.rounds.out) c.runs_go_on.ensures.joined c.rounds.invariant.printed
          c.trace_round.new.core (g.K.Sink.seen c.trace_round.new.out) printed;
      together = c.in-Ok.ensures.together;
      operators = c.trace_round.ensures.operators ∙ c.rounds.invariant.operators;
      crew = c.trace_round.ensures.crew ∙ c.rounds.invariant.crew;
      count = c.trace_round.auto.counts ∙ c.rounds.invariant.count ∙ sym (ap (λ (s : Seen). length s.net.actors) printed.here);
      faults = omega (arith, c.trace_round.ensures.faults, c.rounds.invariant.faults);
    }

pub returns-in-Err-clause-failed : goal.returns-in-Err-clause-failed
returns-in-Err-clause-failed g c = λ e.
    (let failed = c.trace_round.ensures.failed (c.in-Err.is ∙ e) in
    printing_fails c.args.core.now c.rounds.core (g.K.Sink.seen c.args.out.now) (g.K.Sink.seen c.rounds.out) c.runs_go_on.ensures.joined c.rounds.invariant.printed
    (g.K.Sink.seen c.trace_round.new.out) failed.0 failed.1 failed.2)

pub returns-in-Err-clause-out_of_memory : goal.returns-in-Err-clause-out_of_memory
returns-in-Err-clause-out_of_memory g c = λ e.
    (let stops = printing_stops c.args.core.now c.rounds.core (g.K.Sink.seen c.args.out.now) (g.K.Sink.seen c.rounds.out) c.runs_go_on.ensures.joined c.rounds.invariant.printed
    c.runs_go_on-in-rounds.ensures.end in
    (stops.0, stops.1, stops.2, subst (λ sink. Writes (g.K.Sink.seen c.args.out.now) (g.K.Sink.seen sink) stops.0) (sym (c.trace_round.ensures.out_of_memory (c.in-Err.is ∙ e))) stops.3))

pub returns-clause-ok : goal.returns-clause-ok
returns-clause-ok g c =
    all_printed c.args.core.now c.rounds.core (g.K.Sink.seen c.args.out.now) (g.K.Sink.seen c.rounds.out) c.runs_go_on.ensures.joined c.rounds.invariant.printed
    (same_end c.events_go_by_the_net.ensures c.rounds.core c.rounds.runner.seen c.rounds.invariant.together (c.finished.ensures.0 c.rounds-test.false))

pub returns-in-Err-clause-crew : goal.returns-in-Err-clause-crew
returns-in-Err-clause-crew g c = c.trace_round.ensures.crew ∙ c.rounds.invariant.crew

pub returns-clause-crew : goal.returns-clause-crew
returns-clause-crew g c = c.rounds.invariant.crew
