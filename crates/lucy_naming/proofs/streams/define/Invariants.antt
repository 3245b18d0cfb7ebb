use Rattle.std.proofs.Common.{◌≡◌, ◌++◌, drop, map}
use Rattle.lucy_tree.specs.View.{def_tree}
use Rattle.lucy_naming.specs.Streams.{def_names}
use Rattle.lucy_naming.specs.Views.{text_of}
use Rattle.lucy_naming.specs.Faults.{repeats}
use Rattle.lucy_naming.proofs.streams.define.Given as goal

abbrev pub invariant-each : goal.invariant-each
invariant-each l =
    (repeats l.scope (def_names (map def_tree (drop l.def-index l.defs))) ≡ repeats l.initial.scope (def_names (map def_tree l.defs)))
    × (l.scope ++ map text_of (def_names (map def_tree (drop l.def-index l.defs))) ≡ l.initial.scope ++ map text_of (def_names (map def_tree l.defs)))
