use Rattle.std.proofs.Common.{◌≤◌, ◌≡◌, length}
use Rattle.lucy_runner.specs.Left.{events_left}
use Rattle.lucy_trace.specs.Together.{AreTogether}
use Rattle.lucy_trace.specs.Progress.{AreRoundsPrinted}
use Rattle.lucy_trace.proofs.following.trace_on.Given as goal

abbrev pub invariant-rounds : goal.invariant-rounds
invariant-rounds g l = record {
  printed : AreRoundsPrinted l.fn.core l.core (g.K.Sink.seen l.fn.out) (g.K.Sink.seen l.out);
  together : AreTogether l.core l.runner.seen;
  operators : l.runner.seen.operators ≡ l.fn.runner.seen.operators;
  crew : l.runner.crew ≡ l.fn.runner.crew;
  count : length l.counts ≡ length l.core.net.actors;
  faults : (g.K.Sink.seen l.fn.out).faults ≤ (g.K.Sink.seen l.out).faults;
}

abbrev pub decreases-rounds : goal.decreases-rounds
decreases-rounds g l = events_left l.core
