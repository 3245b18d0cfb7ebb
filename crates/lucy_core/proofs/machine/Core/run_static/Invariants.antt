use Rattle.std.proofs.Common.{◌≡◌}
use Rattle.lucy_stream.specs.Schedules.{events_to}
use Rattle.lucy_net.specs.Schedules.{events_at}
use Rattle.lucy_core.specs.Seen.{after_picks}
use Rattle.lucy_core.proofs.machine.Core.run_static.Given as goal

abbrev pub invariant-loop-before : goal.invariant-loop-before
invariant-loop-before g l = l.self ≡ after_picks l.initial.self (events_to (events_at l.initial.self.schedule) l.before)
