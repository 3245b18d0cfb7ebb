use Rattle.std.proofs.Common.{◌+◌}
use Rattle.lucy_check.specs.Turns.{IsBest}
use Rattle.lucy_check.proofs.Seen.{StepsBackTo}
use Rattle.lucy_check.proofs.classes.round_best.Given as goal

abbrev pub invariant-loop-i : goal.invariant-loop-i
invariant-loop-i l = StepsBackTo l.t l.class l.place l.i × IsBest l.a l.t l.place l.best (l.i + 1)
