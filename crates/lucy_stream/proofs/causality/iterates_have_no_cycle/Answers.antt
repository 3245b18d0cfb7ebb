use Rattle.lucy_stream.proofs.NeedLaws.{no_cycle}
use Rattle.lucy_stream.proofs.causality.iterates_have_no_cycle.Goals as goal

pub returns : goal.returns
returns c = no_cycle
