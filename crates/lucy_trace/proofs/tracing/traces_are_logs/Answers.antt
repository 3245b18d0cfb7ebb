use Rattle.lucy_trace.proofs.TraceLaws.{trace_reads}
use Rattle.lucy_trace.proofs.tracing.traces_are_logs.Goals as goal

pub returns : goal.returns
returns c = λ rounds all. trace_reads rounds all 0
