use Rattle.lucy_naming.proofs.NodesLaws.{have_nodes, nodes_one}
use Rattle.lucy_naming.proofs.laws.nodes_are_one.Goals as goal

pub returns : goal.returns
returns c = record { some = have_nodes; one = nodes_one }
