use Rattle.lucy_explain.proofs.FoldLaws.{lines_step}
use Rattle.lucy_explain.proofs.fold.lines_of.Goals as goal

pub each-preserved : goal.each-preserved
each-preserved c =
    let kept = c.each.invariant in
    let line = c.line_of-line.ensures in
    lines_step c.args.diffs.now.list c.args.streams.now c.args.positions.now c.each.lines.items c.each.rest.now c.line_of-line.result _ _ kept.0 kept.1 kept.2 kept.3 line.folds line.stream line.longest
    c.in_ok-push.ensures.items c.behind-next.ensures
