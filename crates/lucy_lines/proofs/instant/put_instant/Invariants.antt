use Rattle.std.proofs.Common.{◌≤◌, ◌≡◌, ◌++◌, take}
use Rattle.lucy_lines.specs.Walks.{next_lines, AreSteppedTo, Gathers}
use Rattle.lucy_lines.proofs.instant.put_instant.Given as goal

abbrev pub invariant-loop-i : goal.invariant-loop-i
invariant-loop-i g l = record {
  gathered : Gathers l.initial.sink l.sink (g.K.Sink.seen l.initial.sink)
      (g.K.Sink.seen l.sink) l.lines (l.initial.lines.bytes ++ next_lines (take l.i l.initial.walks) l.lists);
  stepped : AreSteppedTo l.lists l.initial.walks l.walks l.i;
  room : l.lines.room ≡ l.initial.lines.room;
  count : (g.K.Sink.seen l.initial.sink).faults ≤ (g.K.Sink.seen l.sink).faults;
}
