use Rattle.std.proofs.Common.{◌≤◌, ◌≡◌, ◌+◌, ◌-◌, false, cond}
use Rattle.std.specs.Prelude.{vec_capacity}
use Rattle.lucy_core.specs.Seen.{CanGoOn}
use Rattle.lucy_trace.specs.Steps.{HasBeenLed, all_of}
use Rattle.lucy_trace.proofs.catching.go_there.Given as goal

abbrev pub invariant-loop-moved : goal.invariant-loop-moved
invariant-loop-moved g l = record {
  on : HasBeenLed l.counts l.fn.core l.core l.fn.picks.items l.picks.items;
  room : vec_capacity l.fn.picks ≤ vec_capacity l.picks;
  stopped : l.moved ≡ false → CanGoOn l.core l.counts → ⊥;
}

abbrev pub decreases-loop-moved : goal.decreases-loop-moved
decreases-loop-moved g l = all_of l.fn.core l.counts - all_of l.fn.core l.core.done + cond l.moved 1 0
