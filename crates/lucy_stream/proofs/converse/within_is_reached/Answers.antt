use Rattle.lucy_stream.proofs.ConverseLaws.{converse-counts}
use Rattle.lucy_stream.proofs.converse.within_is_reached.Goals as goal

pub returns : goal.returns
returns c = converse-counts
