use Rattle.lucy_stream.proofs.OperationLaws.{ops_rings, firing_alike}
use Rattle.lucy_stream.proofs.operation.firings_use_their_rings.Goals as goal

pub returns : goal.returns
returns c = record { rings = ops_rings; alike = firing_alike }
