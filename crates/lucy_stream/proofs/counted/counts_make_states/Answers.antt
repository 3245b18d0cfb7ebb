use Rattle.lucy_stream.proofs.CountedLaws.{within_later, counted_done, counted_state, counted_later, counted_none}
use Rattle.lucy_stream.proofs.counted.counts_make_states.Goals as goal

pub returns : goal.returns
returns c = record { done = counted_done; state = counted_state; within = within_later; later = counted_later; none = counted_none }
