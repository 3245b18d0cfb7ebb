use Rattle.lucy_stream.proofs.JoinedLaws.{run_joined, run_first, run_rest, after_joined, events_joined}
use Rattle.lucy_stream.proofs.joined.runs_are_joined.Goals as goal

pub returns : goal.returns
returns c = record { run = run_joined; first = run_first; rest = run_rest; counts = after_joined; state = events_joined }
