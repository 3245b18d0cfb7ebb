use Rattle.std.proofs.Common.{◌≡◌, take}
use Rattle.lucy_net.specs.Schedules.{events_at}
use Rattle.lucy_core.specs.Seen.{after_picks}
use Rattle.lucy_core.proofs.machine.Core.run_instant.Given as goal

abbrev pub invariant-loop-i : goal.invariant-loop-i
invariant-loop-i g l = l.self ≡ after_picks l.initial.self (take l.i (events_at l.initial.self.schedule l.instant))
