use Rattle.std.proofs.Common.{◌≡◌, ◌+◌, drop, map}
use Rattle.lucy_tree.specs.View.{def_tree}
use Rattle.lucy_naming.specs.Numbering.{def_rooms}
use Rattle.lucy_naming.proofs.room.behind_defs.Given as goal

abbrev pub invariant-each : goal.invariant-each
invariant-each l = l.more + def_rooms (map def_tree l.defs) ≡ l.initial.more + def_rooms (map def_tree (drop l.def-index l.defs))
