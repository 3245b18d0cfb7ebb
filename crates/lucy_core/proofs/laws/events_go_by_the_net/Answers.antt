use Rattle.lucy_net.proofs.NetLaws.{planned}
use Rattle.lucy_core.specs.Seen.{machine_on}
use Rattle.lucy_core.proofs.laws.events_go_by_the_net.Goals as goal

pub returns : goal.returns
unfolding machine_on
returns c = λ seen. planned seen.net seen.instants
