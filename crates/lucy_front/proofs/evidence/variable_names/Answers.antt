use Rattle.std.proofs.Common.{arith}
use Rattle.lucy_front.proofs.LineLaws.{positions_more}
use Rattle.lucy_front.proofs.evidence.variable_names.Goals as goal

pub each-preserved : goal.each-preserved
each-preserved c =
    let l = c.each in
    positions_more c.args.node.now c.args.shapes.now l.clock l.names.items c.put_clock.new.names.items _ (omega arith) c.in_ok-put_clock.ensures l.invariant
