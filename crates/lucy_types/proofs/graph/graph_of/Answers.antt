use Rattle.std.proofs.Common.{◌+◌, ◌∙◌, take, get_or, subst, sym}
use Rattle.std.proofs.lemmas.List.{take_all, take_more}
use Rattle.std.proofs.lemmas.List.Elements.{Contains-get_or}
use Rattle.lucy_host.specs.declared.data_type.DataType.TheVariants.{Int}
use Rattle.lucy_types.specs.declared.rule.Rule.{Rule}
use Rattle.lucy_types.specs.declared.rule.Rule.TheVariants.{Is}
use Rattle.lucy_types.specs.Graphs.{IsDrawn, AllFit, IsRuleBelow}
use Rattle.lucy_types.proofs.GraphLaws.{bare_drawn, drawn_more, drawn_graph, room_kept, even_kept}
use Rattle.lucy_types.proofs.graph.graph_of.Goals as goal

pub each-init : goal.each-init
each-init c = bare_drawn c.in_ok-graph.graph (c.args.places + 1) c.in_ok-graph.ensures.ints c.in_ok-graph.ensures.bools c.in_ok-graph.ensures.near

pub draw-requires-clause-fits : goal.draw-requires-clause-fits
draw-requires-clause-fits c =
    let rule : Rule = get_or c.args.rules.now c.each.rule-index (Is 0 Int) in
    subst (λ n. IsRuleBelow n rule) (sym c.each.invariant.0) (c.requires.fit rule (Contains-get_or c.args.rules.now c.each.rule-index (Is 0 Int) c.each-test.true))

pub each-preserved : goal.each-preserved
each-preserved c =
    let rule : Rule = get_or c.args.rules.now c.each.rule-index (Is 0 Int) in
    let i = c.each.invariant in
    let draws = c.in_ok-draw.ensures in
    let fits = subst (λ n. IsRuleBelow n rule) (sym i.0) (c.requires.fit rule (Contains-get_or c.args.rules.now c.each.rule-index (Is 0 Int) c.each-test.true)) in (
      room_kept rule c.each.graph c.draw.new.graph draws ∙ i.0,
      even_kept rule c.each.graph c.draw.new.graph i.1 draws,
      subst (λ rs. IsDrawn rs c.draw.new.graph) (sym (take_more c.args.rules.now c.each.rule-index (Is 0 Int) c.each-test.true))
          (drawn_more (take c.each.rule-index c.args.rules.now) rule c.each.graph c.draw.new.graph i.1 fits i.2 draws),
    )

pub returns-clause-drawn : goal.returns-clause-drawn
returns-clause-drawn c = subst (λ rs. IsDrawn rs c.each.graph) (take_all c.each.rule-index c.args.rules.now c.each-test.false) c.each.invariant.2

pub returns-clause-graph : goal.returns-clause-graph
returns-clause-graph c =
    drawn_graph c.args.rules.now c.each.graph c.each.invariant.1 (subst (λ n. AllFit n c.args.rules.now) (sym c.each.invariant.0) c.requires.fit)
    (subst (λ rs. IsDrawn rs c.each.graph) (take_all c.each.rule-index c.args.rules.now c.each-test.false) c.each.invariant.2)
