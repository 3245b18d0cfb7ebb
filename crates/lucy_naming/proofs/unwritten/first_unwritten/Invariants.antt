use Rattle.std.proofs.Common.{◌≡◌, drop, map}
use Rattle.std.specs.Prelude.{fold}
use Rattle.std.specs.List.{flat_map}
use Rattle.lucy_tree.specs.View.{def_tree}
use Rattle.lucy_naming.specs.Written.{earlier, def_spans}
use Rattle.lucy_naming.proofs.unwritten.first_unwritten.Given as goal

abbrev pub invariant-each : goal.invariant-each
invariant-each l = fold earlier l.found (flat_map def_spans (map def_tree (drop l.def-index l.node.defs))) ≡ fold earlier l.initial.found (flat_map def_spans (map def_tree l.node.defs))
