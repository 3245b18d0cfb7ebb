use Rattle.std.proofs.Common.{◌≡◌, drop, map}
use Rattle.lucy_tree.specs.View.{def_tree}
use Rattle.lucy_naming.specs.Faults.{verdict, def_faults}
use Rattle.lucy_naming.specs.Views.{within_of}
use Rattle.lucy_naming.proofs.placing.def_names.Given as goal

abbrev pub invariant-each : goal.invariant-each
invariant-each l = verdict (def_faults (within_of l.names) (map def_tree (drop l.def-index l.defs))) ≡ verdict (def_faults (within_of l.names) (map def_tree l.defs))
