use Rattle.lucy_svg.proofs.told.all_streams.Goals as goal

pub each-preserved : goal.each-preserved
each-preserved c = c.tell_at.ensures c.args.node.now c.entry_at.ensures c.each.invariant
