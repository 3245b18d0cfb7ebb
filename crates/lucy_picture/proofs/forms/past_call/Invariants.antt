use Rattle.std.proofs.Common.{◌≡◌}
use Rattle.std.specs.Prelude.{fold}
use Rattle.lucy_tree.specs.View.{tree_of}
use Rattle.lucy_picture.specs.Forms.{times}
use Rattle.lucy_picture.specs.Seeking.{seek, seen}
use Rattle.lucy_picture.proofs.forms.past_call.Given as goal

abbrev pub invariant-each : goal.invariant-each
invariant-each l = fold seek (seen l.at) (times l.left (tree_of l.call)) ≡ fold seek (seen l.initial.at) (times l.results (tree_of l.call))

abbrev pub decreases-each : goal.decreases-each
decreases-each l = l.left
