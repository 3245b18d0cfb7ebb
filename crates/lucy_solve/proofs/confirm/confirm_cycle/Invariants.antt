use Rattle.lucy_solve.proofs.Chains.{Walked}
use Rattle.lucy_solve.proofs.confirm.confirm_cycle.Given as goal

abbrev pub invariant-loop-position : goal.invariant-loop-position
invariant-loop-position l = Walked l.list l.cycle l.position-index l.at l.sum
