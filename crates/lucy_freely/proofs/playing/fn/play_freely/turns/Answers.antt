use Rattle.std.proofs.Common.{length}
use Rattle.lucy_host.specs.Host.{lent}
use Rattle.lucy_runner.proofs.TurningLaws.{served_each}
use Rattle.lucy_freely.proofs.playing.fn.play_freely.turns.Goals as goal

pub work_all-requires-clause-served : goal.work_all-requires-clause-served
work_all-requires-clause-served g c κs within =
    served_each c.args.seats.now (length (lent c.captures.host.now)) c.requires.1
