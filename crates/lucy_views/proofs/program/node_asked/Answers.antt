use Rattle.std.proofs.Common.{arith}
use Rattle.lucy_views.proofs.program.node_asked.Goals as goal

pub returns-then-node-nodes-clause-none : goal.returns-then-node-nodes-clause-none
returns-then-node-nodes-clause-none c = λ e has. omega (arith, has, c.number_of-node.ensures, c.nodes.ensures.count)
