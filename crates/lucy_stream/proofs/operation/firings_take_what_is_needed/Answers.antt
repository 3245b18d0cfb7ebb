use Rattle.lucy_stream.proofs.OperationLaws.{take_needed}
use Rattle.lucy_stream.proofs.operation.firings_take_what_is_needed.Goals as goal

pub returns : goal.returns
returns c = take_needed
