use Rattle.lucy_solve.specs.Search.{IsSwept}
use Rattle.lucy_solve.proofs.sweep.round.Given as goal

abbrev pub invariant-loop-variable : goal.invariant-loop-variable
invariant-loop-variable l = IsSwept l.diffs l.fn.values l.values l.parents
