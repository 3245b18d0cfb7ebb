use Rattle.std.proofs.Common.{◌++◌, ◌∷◌, [], ap, ◌∙◌, append_assoc}
use Rattle.std.proofs.lemmas.List.{take_all}
use Rattle.lucy_types.specs.declared.rule.Rule.TheVariants.{Is}
use Rattle.lucy_types.specs.Rules.{all_are}
use Rattle.lucy_types.proofs.ListLaws.{mapped_next}
use Rattle.lucy_types.proofs.operators.put_uniform.Goals as goal

pub each-preserved : goal.each-preserved
each-preserved c =
    mapped_next (λ p. Is p c.args.of) c.args.rules.now.items c.each.rules.items _ c.args.args.now c.each.arg-index 0 c.each-test.true c.in_ok-push.ensures.items c.each.invariant

pub returns : goal.returns
returns c =
    c.in_ok-push-2.ensures.items
    ∙ ap (λ l. l ++ Is c.args.place c.args.gives ∷ []) (c.each.invariant ∙ ap (λ ps. c.args.rules.now.items ++ all_are c.args.of ps) (take_all c.each.arg-index c.args.args.now c.each-test.false))
    ∙ append_assoc c.args.rules.now.items (all_are c.args.of c.args.args.now) (Is c.args.place c.args.gives ∷ [])
