use Rattle.lucy_net.proofs.StateLaws.{next_is, planned_is}
use Rattle.lucy_net.proofs.laws.next_operations_are_planned.Goals as goal

pub returns : goal.returns
returns c = λ actor instants n took state op is. (next_is actor instants n took state op is, planned_is actor instants n took state op is)
