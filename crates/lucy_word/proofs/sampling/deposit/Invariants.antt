use Rattle.lucy_word.proofs.LimbLaws.{Deposited}
use Rattle.lucy_word.proofs.sampling.deposit.Given as goal

abbrev pub invariant-loop-rest : goal.invariant-loop-rest
invariant-loop-rest l = Deposited l.first l.next l.at l.rest l.bits l.kept

abbrev pub decreases-loop-rest : goal.decreases-loop-rest
decreases-loop-rest l = l.rest
