use Rattle.std.proofs.Common.{length, ◌-◌, ◌≡◌, ◌≤◌, Some, take}
use Rattle.lucy_text.specs.Outside.{appended}
use Rattle.lucy_text.proofs.outside.write_all.Given as goal

-- a front as long as `done` was written
abbrev pub invariant-loop-done : goal.invariant-loop-done
invariant-loop-done g l = record {
  within : l.done ≤ length l.bytes;
  written : (g.K.Sink.seen l.sink).written ≡ appended (g.K.Sink.seen l.initial.sink).written (take l.done l.bytes);
  kept : (g.K.Sink.seen l.sink).faults ≡ (g.K.Sink.seen l.initial.sink).faults;
  going : (g.K.Sink.seen l.initial.sink).since_stop ≡ Some 0 → (g.K.Sink.seen l.sink).since_stop ≡ Some 0;
  untouched : l.done ≡ 0 → l.sink ≡ l.initial.sink;
}

abbrev pub decreases-loop-done : goal.decreases-loop-done
decreases-loop-done g l = length l.bytes - l.done
