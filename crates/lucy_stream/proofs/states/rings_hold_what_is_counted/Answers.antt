use Rattle.lucy_stream.proofs.StateLaws.{held-count, held-most}
use Rattle.lucy_stream.proofs.states.rings_hold_what_is_counted.Goals as goal

pub returns : goal.returns
returns c = record { count = held-count; most = held-most }
