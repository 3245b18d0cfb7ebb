use Rattle.std.proofs.Common.{◌≡◌, ◌++◌, drop, map}
use Rattle.lucy_tree.specs.View.{def_tree}
use Rattle.lucy_naming.specs.Nodes.{def_bounds}
use Rattle.lucy_naming.proofs.bounds.bounds.Given as goal

abbrev pub invariant-each : goal.invariant-each
invariant-each l = l.list.items ++ def_bounds (map def_tree (drop l.def-index l.defs)) ≡ def_bounds (map def_tree l.defs)
