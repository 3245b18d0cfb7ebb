use Rattle.std.proofs.Common.{arith}
use Rattle.lucy_views.proofs.Drawn.{goes_more, goes_all}
use Rattle.lucy_views.proofs.charts.charts_of.Goals as goal

pub each-preserved : goal.each-preserved
each-preserved c =
    goes_more c.args.accepted.now c.args.instants c.each.node c.each.out.items c.put_chart.new.out.items c.each.invariant c.in_ok-put_chart.ensures

pub returns : goal.returns
returns c =
    goes_all c.args.accepted.now c.args.instants c.each.node c.each.out.items (omega (arith, c.nodes-node-end.ensures.count)) c.each.invariant
