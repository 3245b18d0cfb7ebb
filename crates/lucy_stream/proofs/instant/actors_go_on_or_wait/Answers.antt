use Rattle.lucy_stream.proofs.InstantLaws.{possible_or_waits}
use Rattle.lucy_stream.proofs.instant.actors_go_on_or_wait.Goals as goal

pub returns : goal.returns
returns c = possible_or_waits
