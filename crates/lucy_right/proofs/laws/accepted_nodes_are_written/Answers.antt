use Rattle.lucy_right.proofs.MeaningLaws.{are_written}
use Rattle.lucy_right.proofs.laws.accepted_nodes_are_written.Goals as goal

pub returns : goal.returns
returns c = are_written
