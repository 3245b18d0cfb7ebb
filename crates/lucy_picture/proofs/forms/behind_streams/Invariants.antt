use Rattle.std.proofs.Common.{◌≡◌, ◌+◌, drop, length, map}
use Rattle.lucy_tree.specs.View.{def_tree, node_tree}
use Rattle.lucy_naming.specs.Streams.{streams, def_names}
use Rattle.lucy_picture.proofs.forms.behind_streams.Given as goal

abbrev pub invariant-each : goal.invariant-each
invariant-each l = l.skip + length (streams (node_tree l.node)) ≡ l.place + length (def_names (map def_tree (drop l.def-index l.node.defs)))
