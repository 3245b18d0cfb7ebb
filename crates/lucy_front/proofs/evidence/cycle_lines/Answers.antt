use Rattle.std.proofs.Common.{◌≡◌, ◌++◌, Some, length, get_or, subst}
use Rattle.std.specs.Prelude.{slice_get}
use Rattle.std.proofs.lemmas.Option.{slice_get-get_or}
use Rattle.lucy_solve.specs.declared.diffs.Diff.{Diff}
use Rattle.lucy_solve.specs.System.{no_diff}
use Rattle.lucy_front.specs.Evidence.{diff_line}
use Rattle.lucy_front.proofs.LineLaws.{cycle_more, below_at}
use Rattle.lucy_front.proofs.evidence.cycle_lines.Goals as goal

pub each-preserved : goal.each-preserved
each-preserved c =
    let l = c.each in
    let cycle = c.args.cycle.now in
    let diffs = c.args.diffs.now.list in
    let low = below_at (length diffs) cycle l.diff-index c.requires.there c.each-test.true in
    let d : Diff = get_or diffs (get_or cycle l.diff-index 0) no_diff in
    let at : slice_get diffs (get_or cycle l.diff-index 0) ≡ Some d = slice_get-get_or diffs (get_or cycle l.diff-index 0) no_diff low in
    let line = subst (λ ds. c.diff_line.new.lines.items ≡ l.lines.items ++ diff_line c.args.names.now (get_or ds (get_or cycle l.diff-index 0) no_diff)) c.list-list.ensures.list c.in_ok-diff_line.ensures in
    cycle_more c.args.names.now diffs cycle l.diff-index d l.lines.items c.diff_line.new.lines.items _ c.each-test.true at line l.invariant
