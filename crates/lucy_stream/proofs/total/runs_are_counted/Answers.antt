use Rattle.lucy_stream.proofs.TotalLaws.{after-times, events_counted}
use Rattle.lucy_stream.proofs.total.runs_are_counted.Goals as goal

pub returns : goal.returns
returns c = record { actor = after-times; all = events_counted }
