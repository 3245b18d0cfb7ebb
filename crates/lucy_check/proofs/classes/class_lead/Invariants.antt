use Rattle.std.proofs.Common.{◌+◌}
use Rattle.lucy_check.specs.Turns.{IsBest}
use Rattle.lucy_check.proofs.Seen.{StepsBackTo, IsSeen}
use Rattle.lucy_check.proofs.classes.class_lead.Given as goal

abbrev pub invariant-loop-i : goal.invariant-loop-i
invariant-loop-i l = StepsBackTo l.t l.class l.place l.i × IsBest l.a l.t l.place l.best (l.t.rounds + 1 + l.i) × IsSeen l.a l.b l.t l.class l.i l.most
