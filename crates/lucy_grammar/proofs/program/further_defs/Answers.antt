use Rattle.std.proofs.Common.{◌≡◌, ◌+◌, [], ◌∷◌, ℕ, List, arith, map, drop, ap, sym, ◌∙◌}
use Rattle.std.proofs.lemmas.List.{drop_all, drop_more}
use Rattle.lucy_token.specs.declared.mark.Mark.TheVariants as mark
use Rattle.lucy_tree.specs.declared.program.Def.{Def}
use Rattle.lucy_tree.specs.View.{def_tree}
use Rattle.lucy_grammar.specs.PrintTokens.{spaced_text, more_defs}
use Rattle.lucy_grammar.proofs.PrintedText.{text_more_defs}
use Rattle.lucy_grammar.proofs.Sheets.{behind, adds_as, nothing, led}
use Rattle.lucy_grammar.proofs.program.further_defs.Goals as goal

pub more-preserved : goal.more-preserved
more-preserved c =
    let l = c.more in
    let xs = c.args.list.now in
    let x = c.next-item.result in
    let later = drop (l.next-index + 1) xs in
    let here : drop l.next-index xs ≡ x ∷ later = drop_more xs l.next-index x (omega arith) ∙ ap (λ y. y ∷ later) (sym c.next-item.is) in
    let text : List Def → List ℕ = λ ds. spaced_text (more_defs (map def_tree ds)) in
    λ end h. l.invariant end (adds_as (behind c.indent.ensures (led mark.And c.leading.ensures (behind c.def.ensures h))) (sym (ap text here ∙ text_more_defs (def_tree x) (map def_tree later))))

pub returns : goal.returns
returns c =
    let l = c.more in
    let none : drop l.next-index c.args.list.now ≡ [] = drop_all l.next-index c.args.list.now (omega arith) in
    l.invariant l.out (adds_as (nothing l.out) (ap (λ (ds : List Def). spaced_text (more_defs (map def_tree ds))) (sym none)))
