use Rattle.lucy_check.proofs.Agreement.{AgreeTo}
use Rattle.lucy_check.proofs.Walks.{Ahead}
use Rattle.lucy_check.proofs.difference.first_difference.Given as goal

abbrev pub invariant-loop-i : goal.invariant-loop-i
invariant-loop-i l = Ahead l.a l.walk_a l.i × Ahead l.b l.walk_b l.i × AgreeTo l.a l.b l.i
