use Rattle.std.proofs.Common.{◌++◌, ap, ◌∙◌}
use Rattle.std.specs.Fmt.{decimal}
use Rattle.lucy_front.specs.Evidence.{cycle_lines, variable_names}
use Rattle.lucy_front.proofs.LineLaws.{six_new}
use Rattle.lucy_front.proofs.evidence.unclocked_lines.Goals as goal

pub returns : goal.returns
returns c =
    six_new _ c.args.node.now.name.text _ (decimal c.args.shape.now.period) _ (cycle_lines (variable_names c.args.node.now c.args.shape.now.clocks) c.args.diffs.now.list c.args.cycle.now) c.new-lines.result.items
    c.bytes.new.out.items c.bytes-3.new.out.items c.bytes-4.new.out.items c.number.new.out.items c.bytes-5.new.out.items c.put_cycle.new.lines.items c.new-lines.ensures.items c.in_ok-bytes.ensures
    (c.in_ok-bytes-2.ensures ∙ ap (λ x. c.bytes.new.out.items ++ x) c.bytes-2.ensures) c.in_ok-bytes-3.ensures c.in_ok-number.ensures c.in_ok-bytes-4.ensures c.in_ok-put_cycle.ensures
