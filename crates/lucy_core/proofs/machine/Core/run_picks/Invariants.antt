use Rattle.std.proofs.Common.{◌≡◌, take}
use Rattle.lucy_core.specs.Seen.{after_picks, CanRun}
use Rattle.lucy_core.proofs.machine.Core.run_picks.Given as goal

abbrev pub invariant-loop-done : goal.invariant-loop-done
invariant-loop-done g l = record {
  here : l.self ≡ after_picks l.initial.self (take l.done l.picks);
  run : CanRun l.initial.self (take l.done l.picks);
}
