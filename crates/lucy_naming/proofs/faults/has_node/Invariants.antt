use Rattle.std.proofs.Common.{◌≡◌, drop, map}
use Rattle.lucy_tree.specs.View.{node_tree}
use Rattle.lucy_naming.specs.Texts.{is_in}
use Rattle.lucy_naming.specs.Streams.{node_names}
use Rattle.lucy_naming.proofs.faults.has_node.Given as goal

abbrev pub invariant-each : goal.invariant-each
invariant-each l = is_in (node_names (map node_tree (drop l.node-index l.nodes))) l.name.text ≡ is_in (node_names (map node_tree l.nodes)) l.name.text
