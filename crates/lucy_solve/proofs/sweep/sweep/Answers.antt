use Rattle.lucy_solve.proofs.Sweeps.{swept_none, swept_on}
use Rattle.lucy_solve.proofs.sweep.sweep.Goals as goal

pub rounds-init : goal.rounds-init
rounds-init c = swept_none _ _ _ c.requires.reached c.requires.within

pub rounds-preserved : goal.rounds-preserved
rounds-preserved c = swept_on _ _ _ _ _ _ c.rounds.invariant c.in_ok-round.ensures.swept
