use Rattle.std.proofs.Common.{◌++◌, length, ap, sym, ◌∙◌, arith}
use Rattle.std.proofs.lemmas.Option.{same_Some}
use Rattle.lucy_place.specs.declared.placed.PlacedNode.{PlacedNode}
use Rattle.lucy_front.specs.Evidence.{cycle_lines, variable_names}
use Rattle.lucy_front.proofs.evidence.cycle_text.Goals as goal

pub put_cycle-requires-clause-clocks : goal.put_cycle-requires-clause-clocks
put_cycle-requires-clause-clocks c =
    let count = c.requires.clocks c.node-node.result.now c.node-node.ensures.is in
    let few = c.node-node.ensures.proper.few in
    let calls = c.node-node.ensures.proper.few_calls in
    let same = ap length c.list.ensures in
    omega arith

pub returns : goal.returns
returns c = λ n e.
    let here = same_Some c.node-node.result.now n (sym c.node-node.ensures.is ∙ e) in
    let shape = c.args.shape.now.clocks in
    let diffs = c.args.diffs.now.list in
    let cycle = c.args.cycle.now in
    c.in_ok-put_cycle.ensures ∙ ap (λ l. l ++ cycle_lines (variable_names c.node-node.result.now shape) diffs cycle) c.new-lines.ensures.items
    ∙ ap (λ (m : PlacedNode). cycle_lines (variable_names m shape) diffs cycle) here
