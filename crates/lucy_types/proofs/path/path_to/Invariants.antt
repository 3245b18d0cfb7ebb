use Rattle.std.proofs.Common.{◌<◌, length}
use Rattle.lucy_types.proofs.PathLaws.{Trails}
use Rattle.lucy_types.proofs.path.path_to.Given as goal

abbrev pub invariant-back : goal.invariant-back
invariant-back l = (l.i < length l.flood.queue.items) × Trails l.graph l.flood l.i l.path.items

abbrev pub decreases-back : goal.decreases-back
decreases-back l = l.i
