use Rattle.lucy_solve.proofs.Sweeps.{swept_none, swept_on}
use Rattle.lucy_solve.proofs.sweep.visit.Goals as goal

pub loop-position-init : goal.loop-position-init
loop-position-init c = swept_none _ _ _ c.requires.reached c.requires.within

pub loop-position-preserved : goal.loop-position-preserved
loop-position-preserved c = swept_on _ _ _ _ _ _ c.loop-position.invariant c.lift_from_low.ensures.swept
