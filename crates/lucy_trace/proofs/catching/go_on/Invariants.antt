use Rattle.std.proofs.Common.{◌≤◌, ◌-◌}
use Rattle.std.specs.Prelude.{vec_capacity}
use Rattle.lucy_core.specs.Seen.{done_of}
use Rattle.lucy_trace.specs.Steps.{HasBeenLed}
use Rattle.lucy_trace.proofs.catching.go_on.Given as goal

abbrev pub invariant-steps : goal.invariant-steps
invariant-steps g l = record {
  on : HasBeenLed l.counts l.fn.core l.core l.fn.picks.items l.picks.items;
  room : vec_capacity l.fn.picks ≤ vec_capacity l.picks;
}

abbrev pub decreases-steps : goal.decreases-steps
decreases-steps g l = l.count - done_of l.core.done l.actor
