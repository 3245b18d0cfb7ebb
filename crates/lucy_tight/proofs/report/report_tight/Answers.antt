use Rattle.std.proofs.Common.{ℕ, ◌+◌, List, ◌++◌, length, nat_eq, ap, sym, ◌∙◌}
use Rattle.std.specs.Prelude.{codes}
use Rattle.std.specs.Fmt.{decimal}
use Rattle.lucy_place.specs.declared.placed.PlacedNode.{PlacedNode}
use Rattle.lucy_types.specs.Tables.{table_at}
use Rattle.lucy_program.specs.Names.{of_one}
use Rattle.lucy_program.specs.Report.{node_lines}
use Rattle.lucy_program.proofs.ReportLaws.{four_new}
use Rattle.lucy_tight.specs.Report.{size_text, less_lines}
use Rattle.lucy_tight.proofs.ReportLaws.{told_sizes, told_clocks, told_variables, told_there}
use Rattle.lucy_tight.proofs.report.report_tight.Goals as goal

pub report_node-requires-clause-sizes : goal.report_node-requires-clause-sizes
report_node-requires-clause-sizes c = λ n at.
    told_sizes c.args.accepted.now c.requires.tightened.0 c.args.node c.args.buffer c.args.tight.now c.requires.tightened.1 n at

pub put_evidence-requires-clause-clocks : goal.put_evidence-requires-clause-clocks
put_evidence-requires-clause-clocks c = λ n at.
    told_clocks c.args.accepted.now c.requires.tightened.0 c.args.node c.args.buffer c.args.tight.now c.requires.tightened.1 n at

pub put_evidence-requires-clause-variables : goal.put_evidence-requires-clause-variables
put_evidence-requires-clause-variables c =
    told_variables c.args.accepted.now c.requires.tightened.0 c.args.node c.args.buffer c.args.tight.now c.requires.tightened.1

pub put_evidence-requires-clause-there : goal.put_evidence-requires-clause-there
put_evidence-requires-clause-there c =
    told_there c.args.accepted.now c.requires.tightened.0 c.args.node c.args.buffer c.args.tight.now c.requires.tightened.1

pub returns : goal.returns
returns c =
    let a = c.args.accepted.now in
    let t = c.args.tight.now in
    let n = c.node-found.result.now in
    let is = c.node-found.ensures.is in
    let least : List ℕ = codes "least " ++ (decimal t.least ++ codes "\n") in
    let own : PlacedNode → List ℕ = λ m. node_lines a.placed.nodes (nat_eq (c.args.node + 1) (length a.placed.nodes)) m (table_at a.typed c.args.node) t.clocks in
    let lines = c.deref.ensures.value ∙ c.in_ok-lines.ensures n is in
    four_new (size_text n c.args.buffer t.printed) least (own n)
    (less_lines n t.least t) c.new-out.result.items c.put_size.new.out.items c.put_least.new.out.items c.bytes.new.out.items
    c.put_evidence.new.out.items c.new-out.ensures.items c.in_ok-put_size.ensures c.in_ok-put_least.ensures
    (c.in_ok-bytes.ensures ∙ ap (λ l. c.put_least.new.out.items ++ l) lines) (c.in_ok-put_evidence.ensures n is)
    ∙ sym (ap (of_one (λ m. size_text m c.args.buffer t.printed ++ (least
    ++ (own m ++ less_lines m t.least t)))) is)
