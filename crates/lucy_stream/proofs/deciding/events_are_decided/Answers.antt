use Rattle.lucy_stream.proofs.DecidingLaws.{possible_decides, run_decides}
use Rattle.lucy_stream.proofs.deciding.events_are_decided.Goals as goal

pub returns : goal.returns
returns c = record { event = possible_decides; run = run_decides }
