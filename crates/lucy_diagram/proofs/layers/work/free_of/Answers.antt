use Rattle.std.proofs.Common.{sym, subst, arith}
use Rattle.lucy_diagram.proofs.LayeringLaws.{free_none, free_more}
use Rattle.lucy_diagram.proofs.layers.work.free_of.Goals as goal

pub each-preserved : goal.each-preserved
each-preserved c = free_more c.args.found.now c.args.waits.now c.each.place c.each.free.items _ c.each.invariant c.in_ok-put_free.ensures
