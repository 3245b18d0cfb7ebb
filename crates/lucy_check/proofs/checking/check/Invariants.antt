use Rattle.lucy_need.specs.Meeting.{assigned}
use Rattle.lucy_check.specs.Lent.{IsKept}
use Rattle.lucy_check.proofs.CheckLaws.{PassesSoFar}
use Rattle.lucy_check.proofs.checking.check.Given as goal

abbrev pub invariant-each : goal.invariant-each
invariant-each l = PassesSoFar (assigned l.words) l.list l.i l.sizes.items × IsKept (assigned l.words) l.kept
