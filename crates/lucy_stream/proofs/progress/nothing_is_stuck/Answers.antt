use Rattle.lucy_stream.proofs.StuckLaws.{first_left-some, first_left-none, first_left-finished, never_stuck}
use Rattle.lucy_stream.proofs.progress.nothing_is_stuck.Goals as goal

pub returns : goal.returns
returns c = record { first = first_left-some; none_left = first_left-none; finished = first_left-finished; never = never_stuck }
