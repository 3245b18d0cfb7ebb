use Rattle.lucy_stream.proofs.AlikeLaws.{IsRun-alike, IsAlike-run}
use Rattle.lucy_stream.proofs.instant.alike_counts_run_alike.Goals as goal

pub returns : goal.returns
returns c = record { run = IsRun-alike; ends = IsAlike-run }
