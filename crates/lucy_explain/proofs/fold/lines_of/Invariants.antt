use Rattle.std.proofs.Common.{◌<◌, length}
use Rattle.std.specs.List.{All}
use Rattle.lucy_explain.specs.Folds.{FoldTo}
use Rattle.lucy_explain.specs.Folded.{AreOfOneStream, AreLongest}
use Rattle.lucy_explain.proofs.fold.lines_of.Given as goal

abbrev pub invariant-each : goal.invariant-each
invariant-each l = FoldTo l.diffs.list l.positions l.lines.items l.rest × AreOfOneStream l.streams l.diffs.list l.positions l.lines.items × AreLongest l.streams l.diffs.list l.positions l.lines.items × All (λ p. p < length l.diffs.list) l.rest

abbrev pub decreases-each : goal.decreases-each
decreases-each l = length l.rest
