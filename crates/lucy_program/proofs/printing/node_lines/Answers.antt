use Rattle.std.proofs.Common.{◌<◌, length, take, ap, sym, ◌∙◌, arith}
use Rattle.std.proofs.lemmas.List.{length-take-le}
use Rattle.lucy_program.proofs.ReportLaws.{table_found, sites_there}
use Rattle.lucy_program.proofs.printing.node_lines.Goals as goal

pub name_lines-requires-clause-all : goal.name_lines-requires-clause-all
name_lines-requires-clause-all c =
    let all = c.requires.typed.all in
    let node = c.requires.node in
    let h : c.args.number < length c.args.typed.now = omega arith in
    (c.requires.typed.each c.args.number c.node-node.result.now _ c.node-node.ensures.is (table_found c.args.typed.now c.args.number h)).all ∙ ap length (sym c.list.ensures)

pub call_lines-requires-clause-there : goal.call_lines-requires-clause-there
call_lines-requires-clause-there c =
    let node = c.requires.node in
    let few = length-take-le c.args.number c.args.placed.now.nodes (omega arith) in
    sites_there (take c.args.number c.args.placed.now.nodes) c.node-node.result.now (length c.args.placed.now.nodes) c.node-node.ensures.proper (omega arith)
