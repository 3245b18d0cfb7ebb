use Rattle.std.proofs.Common.{◌≡◌, map, take, pos}
use Rattle.lucy_solve.proofs.solver.signed.Given as goal

abbrev pub invariant-loop-value : goal.invariant-loop-value
invariant-loop-value l = l.list.items ≡ map pos (take l.value-index l.values)
