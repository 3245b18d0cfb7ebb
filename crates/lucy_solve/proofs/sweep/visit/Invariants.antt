use Rattle.lucy_solve.specs.Search.{IsSwept}
use Rattle.lucy_solve.proofs.sweep.visit.Given as goal

abbrev pub invariant-loop-position : goal.invariant-loop-position
invariant-loop-position l = IsSwept l.diffs l.fn.values l.values l.parents
