use Rattle.std.proofs.Common.{◌+◌, ◌-◌, ◌≡◌, ◌≤◌, Some, vec_len}
use Rattle.lucy_text.specs.Outside.{GaveBytes}
use Rattle.lucy_text.proofs.read.read_up_to.Given as goal

abbrev pub invariant-loop-buffer : goal.invariant-loop-buffer
invariant-loop-buffer g l = record {
  took : GaveBytes (g.I.Source.seen l.initial.input) (g.I.Source.seen l.input) l.bytes.items;
  within : vec_len l.bytes ≤ l.limit + 1;
  calm : (g.I.Source.seen l.input).faults ≡ (g.I.Source.seen l.initial.input).faults;
  going : (g.I.Source.seen l.initial.input).since_stop ≡ Some 0 → (g.I.Source.seen l.input).since_stop ≡ Some 0;
}

abbrev pub decreases-loop-buffer : goal.decreases-loop-buffer
decreases-loop-buffer g l = l.limit + 1 - vec_len l.bytes
