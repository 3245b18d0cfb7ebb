use Rattle.std.proofs.Common.{drop, map}
use Rattle.lucy_tree.specs.View.{def_tree}
use Rattle.lucy_naming.specs.Views.{known_of}
use Rattle.lucy_naming.proofs.NodeLaws.{DefsDrawn}
use Rattle.lucy_naming.proofs.nodes.all_defs.Given as goal

abbrev pub invariant-each : goal.invariant-each
invariant-each l = DefsDrawn (known_of l.names) l.named.items l.draft (map def_tree (drop l.def-index l.defs)) l.initial.named.items l.initial.draft (map def_tree l.defs)
