use Rattle.std.proofs.Common.{◌≡◌, drop, map}
use Rattle.std.specs.Prelude.{fold}
use Rattle.lucy_tree.specs.Tree.{trees_of}
use Rattle.lucy_tree.specs.View.{tree_of}
use Rattle.lucy_picture.specs.Forms.{all_forms}
use Rattle.lucy_picture.specs.Seeking.{seek, seen}
use Rattle.lucy_picture.proofs.forms.+forms.Given as goal

abbrev pub invariant-inside_all-each : goal.invariant-inside_all-each
invariant-inside_all-each l =
    fold seek (seen l.at) (all_forms (trees_of (map tree_of (drop l.expr-index l.list)))) ≡ fold seek (seen l.initial.at) (all_forms (trees_of (map tree_of l.list)))
