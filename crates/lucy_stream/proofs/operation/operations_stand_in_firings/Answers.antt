use Rattle.lucy_stream.proofs.PlaceLaws.{op_found, fired_in}
use Rattle.lucy_stream.proofs.operation.operations_stand_in_firings.Goals as goal

pub returns : goal.returns
returns c = record { op = op_found; number = fired_in }
