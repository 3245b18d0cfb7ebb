use Rattle.std.proofs.Common.{◌++◌, length, ap, sym, ◌∙◌}
use Rattle.std.proofs.lemmas.Result.{on_ok_weaker}
use Rattle.lucy_front.specs.Evidence.{cycle_lines, variable_names}
use Rattle.lucy_front.proofs.LineLaws.{names_count}
use Rattle.lucy_front.proofs.evidence.put_cycle.Goals as goal

pub cycle_lines-requires-clause-names : goal.cycle_lines-requires-clause-names
cycle_lines-requires-clause-names c =
    ap length (c.deref.ensures.value ∙ c.in_ok-names.ensures ∙ ap (variable_names c.args.node.now) c.list.ensures) ∙ names_count c.args.node.now c.args.shape.now.clocks ∙ sym c.requires.variables

pub returns : goal.returns
returns c =
    let names = c.deref.ensures.value ∙ c.in_ok-names.ensures ∙ ap (variable_names c.args.node.now) c.list.ensures in
    on_ok_weaker c.cycle_lines.result (λ e. e ∙ ap (λ ns. c.args.lines.now.items ++ cycle_lines ns c.args.diffs.now.list c.args.cycle.now) names) c.cycle_lines.ensures
