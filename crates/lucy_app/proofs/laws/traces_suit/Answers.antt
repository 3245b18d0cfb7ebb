use Rattle.lucy_app.proofs.Traceable.{run_suits}
use Rattle.lucy_app.proofs.laws.traces_suit.Goals as goal

pub returns : goal.returns
returns c = run_suits
