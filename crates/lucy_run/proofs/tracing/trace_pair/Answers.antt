use Rattle.std.proofs.Common.{Err, ap, ◌∙◌}
use Rattle.lucy_run.proofs.EndsLaws.{on_ok}
use Rattle.lucy_run.proofs.TracingLaws.{all_traced, trace_failed, trace_stopped}
use Rattle.lucy_run.proofs.tracing.trace_pair.Goals as goal

pub returns-in-Ok-clause-left : goal.returns-in-Ok-clause-left
returns-in-Ok-clause-left g c =
    all_traced c.args.core.now.net c.args.core.now.instants c.args.ending _ _ c.requires.whole (on_ok _ _ c.in-Ok.is c.trace.ensures.ok)

pub returns-in-Err-Failed-clause-left : goal.returns-in-Err-Failed-clause-left
returns-in-Err-Failed-clause-left g c =
    trace_failed c.args.core.now.net c.args.core.now.instants c.args.ending _ _
    (c.trace.ensures.failed (c.in-Err-Failed.is ∙ ap Err c.in-Err-Failed.field-0-is))

pub returns-in-Err-OutOfMemory-clause-left : goal.returns-in-Err-OutOfMemory-clause-left
returns-in-Err-OutOfMemory-clause-left g c =
    trace_stopped c.args.core.now.net c.args.core.now.instants c.args.ending _ _
    (c.trace.ensures.out_of_memory (c.in-Err-OutOfMemory.is ∙ ap Err c.in-Err-OutOfMemory.field-0-is))
