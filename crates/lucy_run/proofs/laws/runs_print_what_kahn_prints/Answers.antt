use Rattle.lucy_run.proofs.OwesLaws.{same_lines}
use Rattle.lucy_run.proofs.laws.runs_print_what_kahn_prints.Goals as goal

pub returns : goal.returns
returns c = same_lines c.one_feed.ensures c.one_horizon.ensures
