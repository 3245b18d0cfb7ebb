use Rattle.lucy_solve.specs.Search.{IsReached, IsPassed}
use Rattle.lucy_solve.proofs.pass.pass.Given as goal

abbrev pub invariant-loop-steps : goal.invariant-loop-steps
invariant-loop-steps l = IsReached l.diffs l.values l.parents × IsPassed l.diffs.list l.backwards l.fn.values l.values l.steps l.moved
