use Rattle.std.proofs.Common.{◌-◌, refl}
use Rattle.lucy_results.proofs.OutputLaws.{main_here}
use Rattle.lucy_net_rows.proofs.outputs.main_node.Goals as goal

pub returns : goal.returns
returns c = main_here c.args.placed.now.nodes c.nodes.result (c.nodes.result - 1) c.node.result.now c.nodes.ensures.count refl c.node.ensures.is
