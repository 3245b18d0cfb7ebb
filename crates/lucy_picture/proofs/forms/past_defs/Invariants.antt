use Rattle.std.proofs.Common.{◌≡◌, drop, map}
use Rattle.std.specs.Prelude.{fold}
use Rattle.lucy_tree.specs.View.{def_tree}
use Rattle.lucy_picture.specs.Forms.{def_forms}
use Rattle.lucy_picture.specs.Seeking.{seek, seen}
use Rattle.lucy_picture.proofs.forms.past_defs.Given as goal

abbrev pub invariant-each : goal.invariant-each
invariant-each l = fold seek (seen l.at) (def_forms (map def_tree (drop l.def-index l.defs))) ≡ fold seek (seen l.initial.at) (def_forms (map def_tree l.defs))
