use Rattle.std.proofs.Common.{arith}
use Rattle.lucy_host.proofs.Elements.{get_there}
use Rattle.lucy_program.proofs.ReportLaws.{report_more}
use Rattle.lucy_program.proofs.printing.all_lines.Goals as goal

pub each-preserved : goal.each-preserved
each-preserved c =
    let l = c.each in
    let nodes = c.args.placed.now.nodes in
    let count = c.nodes-nodes.ensures.count in
    let test = c.each-test.true in
    let all = c.requires.all in
    let n = get_there nodes l.number (omega arith) in
    report_more nodes nodes c.args.typed.now c.args.clocks.now l.number c.nodes-nodes.result n.0 c.index-clocks-number.result l.out.items _ _ n.1 c.requires.typed.all (omega arith) c.index-clocks-number.is count (c.in_ok-node_lines.ensures n.0 n.1) l.invariant
