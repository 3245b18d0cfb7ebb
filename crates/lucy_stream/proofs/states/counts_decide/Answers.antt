use Rattle.lucy_stream.proofs.ReachLaws.{counts_decide}
use Rattle.lucy_stream.proofs.states.counts_decide.Goals as goal

pub returns : goal.returns
returns c = counts_decide
