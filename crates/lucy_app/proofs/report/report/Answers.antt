use Rattle.std.proofs.Common.{◌<◌, length, ap, sym, ◌∙◌, arith}
use Rattle.std.proofs.lemmas.Option.{slice_get_within}
use Rattle.lucy_program.proofs.ReportLaws.{table_found}
use Rattle.lucy_app.proofs.Reports.{report_more}
use Rattle.lucy_app.proofs.report.report.Goals as goal

pub name_lines-requires-clause-all : goal.name_lines-requires-clause-all
name_lines-requires-clause-all c =
    let h : c.each.number < length c.args.typed.now = omega (arith, c.requires.all, slice_get_within c.args.placed.now.nodes c.each.number c.node-node.result.now c.node-node.ensures.is) in
    (c.requires.each c.each.number c.node-node.result.now _ c.node-node.ensures.is (table_found c.args.typed.now c.each.number h)).all ∙ ap length (sym c.list.ensures)

pub each-preserved : goal.each-preserved
each-preserved c =
    let l = c.each in
    report_more c.args.placed.now.nodes c.args.typed.now l.number c.nodes-nodes.result c.node-node.result.now c.list.result.now l.out.items _ _ _ c.node-node.ensures.is c.requires.all c.nodes-nodes.ensures.count
    c.list.ensures c.in_ok-node_line.ensures c.in_ok-name_lines.ensures l.invariant
