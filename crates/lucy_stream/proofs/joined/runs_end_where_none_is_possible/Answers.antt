use Rattle.lucy_stream.proofs.JoinedLaws.{length_run, length_within, length_longest}
use Rattle.lucy_stream.proofs.joined.runs_end_where_none_is_possible.Goals as goal

pub returns : goal.returns
returns c = record { run = length_run; within = length_within; longest = length_longest }
