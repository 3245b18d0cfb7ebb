use Rattle.lucy_solve.proofs.Sweeps.{swept_none}
use Rattle.lucy_solve.proofs.sweep.round.Goals as goal

pub loop-variable-init : goal.loop-variable-init
loop-variable-init c = swept_none _ _ _ c.requires.reached c.requires.within

pub loop-variable-preserved : goal.loop-variable-preserved
loop-variable-preserved c = c.loop-variable.invariant
