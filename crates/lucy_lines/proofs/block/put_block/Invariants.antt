use Rattle.std.proofs.Common.{ℕ, ◌+◌, ◌≡◌, ◌≤◌, List, length}
use Rattle.lucy_lines.specs.declared.output.OutputSpec.{OutputSpec as Output}
use Rattle.lucy_lines.specs.Outputs.{more_lines}
use Rattle.lucy_lines.specs.Walks.{AreAt, AreWalked, FitRoom, Gathers}
use Rattle.lucy_lines.proofs.block.put_block.Given as goal

abbrev pub invariant-instants : goal.invariant-instants
invariant-instants g l = record {
  long : length l.walks ≡ length l.fn.walks;
  left : (before : ℕ) (outputs : List Output) → AreAt before outputs l.fn.walks → AreWalked before (before + l.counter) outputs l.lists l.walks;
  fit : FitRoom l.walks l.lines.room;
  gathered : (before : ℕ) (outputs : List Output) → AreAt before outputs l.fn.walks → Gathers l.initial.sink l.sink
      (g.K.Sink.seen l.initial.sink) (g.K.Sink.seen l.sink) l.lines (more_lines outputs l.lists before l.counter);
  count : (g.K.Sink.seen l.initial.sink).faults ≤ (g.K.Sink.seen l.sink).faults;
}
