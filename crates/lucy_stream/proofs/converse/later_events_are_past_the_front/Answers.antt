use Rattle.lucy_stream.proofs.ConverseLaws.{between_rest}
use Rattle.lucy_stream.proofs.converse.later_events_are_past_the_front.Goals as goal

pub returns : goal.returns
returns c = between_rest
