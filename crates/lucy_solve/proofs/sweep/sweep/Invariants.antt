use Rattle.lucy_solve.specs.Search.{IsSwept}
use Rattle.lucy_solve.proofs.sweep.sweep.Given as goal

abbrev pub invariant-rounds : goal.invariant-rounds
invariant-rounds l = IsSwept l.diffs l.fn.values l.values l.parents
