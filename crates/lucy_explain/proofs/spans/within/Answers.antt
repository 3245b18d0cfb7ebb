use Rattle.lucy_explain.proofs.spans.within.Goals as goal

pub each-preserved : goal.each-preserved
each-preserved c = c.in_ok-push_within.ensures c.each.invariant
