use Rattle.lucy_run.proofs.TraceOnce.{trace_once}
use Rattle.lucy_run.proofs.laws.one_trace.Goals as goal

pub returns : goal.returns
returns c = trace_once c.one_feed.ensures c.one_horizon.ensures
