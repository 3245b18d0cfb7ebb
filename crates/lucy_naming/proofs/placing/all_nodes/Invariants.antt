use Rattle.std.proofs.Common.{drop, take, map}
use Rattle.lucy_tree.specs.View.{node_tree}
use Rattle.lucy_naming.proofs.ProgramLaws.{NodesPlaced}
use Rattle.lucy_naming.proofs.placing.all_nodes.Given as goal

abbrev pub invariant-each : goal.invariant-each
invariant-each l = NodesPlaced l.ops (map node_tree l.nodes) (map node_tree (take l.i l.nodes)) (map node_tree (drop l.i l.nodes)) l.scope l.list.items l.spans.items
