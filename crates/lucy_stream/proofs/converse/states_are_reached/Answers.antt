use Rattle.lucy_stream.proofs.ReachLaws.{converse-start, converse}
use Rattle.lucy_stream.proofs.converse.states_are_reached.Goals as goal

pub returns : goal.returns
returns c = record { run = converse-start; later = converse }
