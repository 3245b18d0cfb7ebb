use Rattle.std.proofs.Common.{◌+◌, ◌++◌, nat_eq, ap, ◌∙◌}
use Rattle.lucy_types.specs.Tables.{table_at}
use Rattle.lucy_program.specs.Report.{node_lines}
use Rattle.lucy_program.proofs.printing.report_node.Goals as goal

pub returns : goal.returns
returns c = λ n e.
    let nodes = c.args.accepted.now.placed.nodes in
    let ts = table_at c.args.accepted.now.typed c.args.node in
    c.in_ok-node_lines.ensures n e ∙ ap (λ l. l ++ node_lines nodes (nat_eq (c.args.node + 1) c.nodes-nodes.result) n ts c.args.clocks.now) c.new-out.ensures.items
    ∙ ap (λ k. node_lines nodes (nat_eq (c.args.node + 1) k) n ts c.args.clocks.now) c.nodes-nodes.ensures.count
