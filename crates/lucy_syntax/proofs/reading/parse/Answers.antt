use Rattle.std.proofs.Common.{inr, List, [], map, sym, ap, subst, arith, ◌∙◌}
use Rattle.lucy_tree.specs.Shaped.{IsShapedProgram}
use Rattle.lucy_tree.specs.View.{node_tree}
use Rattle.lucy_token.specs.declared.token.Token.{Token}
use Rattle.lucy_token.specs.Cuts.{Cuts}
use Rattle.lucy_grammar.specs.Texts.{HasTree}
use Rattle.lucy_grammar.proofs.ShapedLaws.{shaped}
use Rattle.lucy_grammar.proofs.TextLaws.{has_tree, one_program, tree_or_error}
use Rattle.lucy_syntax.proofs.TextLaws.{refused_so, rejected_so, accepted_so}
use Rattle.lucy_syntax.proofs.reading.parse.Goals as goal

pub returns-in_err-list-clause-refused : goal.returns-in_err-list-clause-refused
returns-in_err-list-clause-refused c =
    let P : List Token → Type 0 = λ ts. Cuts 0 [] c.args.text.now ts c.in-Ok.cut.stop in
    refused_so c.args.text.now _ c.in-Ok.cut.stop _ c.from_residual.result (omega (arith, c.if-text-number.false))
    (subst P (sym c.deref.ensures.value) c.in-Ok.ensures) c.from_residual.ensures.1 c.in_err-list.ensures.refused

pub returns-in_err-list-clause-accepted : goal.returns-in_err-list-clause-accepted
returns-in_err-list-clause-accepted c p h =
    accepted_so c.args.text.now _ c.in-Ok.cut.stop _ p c.from_residual.result _ h.short (let P : List Token → Type 0 = λ ts. Cuts 0 [] c.args.text.now ts c.in-Ok.cut.stop in subst P (sym c.deref.ensures.value) c.in-Ok.ensures) c.from_residual.ensures.1 c.in_err-list.ensures.refused h

pub returns-in_err-list-clause-rejected : goal.returns-in_err-list-clause-rejected
returns-in_err-list-clause-rejected c e h =
    rejected_so c.args.text.now _ c.in-Ok.cut.stop _ e c.from_residual.result (omega (arith, c.if-text-number.false)) (let P : List Token → Type 0 = λ ts. Cuts 0 [] c.args.text.now ts c.in-Ok.cut.stop in subst P (sym c.deref.ensures.value) c.in-Ok.ensures) c.from_residual.ensures.1 c.in_err-list.ensures.refused h

pub returns-clause-accepted : goal.returns-clause-accepted
returns-clause-accepted c p h =
    let mine : HasTree c.args.text.now (map node_tree c.in_ok-list.list.items) = has_tree c.args.text.now _ c.in-Ok.cut.stop _ h.short (let P : List Token → Type 0 = λ ts. Cuts 0 [] c.args.text.now ts c.in-Ok.cut.stop in subst P (sym c.deref.ensures.value) c.in-Ok.ensures) c.in_ok-list.ensures.ok in
    inr (ap (map node_tree) c.new.ensures ∙ one_program c.args.text.now _ p mine h)

pub returns-clause-rejected : goal.returns-clause-rejected
returns-clause-rejected c e h =
    let mine : HasTree c.args.text.now (map node_tree c.in_ok-list.list.items) = has_tree c.args.text.now _ c.in-Ok.cut.stop _ (omega (arith, c.if-text-number.false)) (let P : List Token → Type 0 = λ ts. Cuts 0 [] c.args.text.now ts c.in-Ok.cut.stop in subst P (sym c.deref.ensures.value) c.in-Ok.ensures) c.in_ok-list.ensures.ok in
    absurd (tree_or_error c.args.text.now _ e mine h)

pub returns-clause-shaped : goal.returns-clause-shaped
returns-clause-shaped c =
    let mine : HasTree c.args.text.now (map node_tree c.in_ok-list.list.items) = has_tree c.args.text.now _ c.in-Ok.cut.stop _ (omega (arith, c.if-text-number.false)) (let P : List Token → Type 0 = λ ts. Cuts 0 [] c.args.text.now ts c.in-Ok.cut.stop in subst P (sym c.deref.ensures.value) c.in-Ok.ensures) c.in_ok-list.ensures.ok in
    subst IsShapedProgram (sym (ap (map node_tree) c.new.ensures)) (shaped c.args.text.now _ mine)
