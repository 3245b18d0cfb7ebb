use Rattle.std.proofs.Common.{◌≡◌, ◌+◌, [], ◌∷◌, ℕ, List, arith, map, drop, ap, sym, ◌∙◌}
use Rattle.std.proofs.lemmas.List.{drop_all, drop_more}
use Rattle.lucy_tree.specs.declared.program.Node.{Node}
use Rattle.lucy_tree.specs.View.{node_tree}
use Rattle.lucy_grammar.specs.PrintTokens.{spaced_text, more_nodes}
use Rattle.lucy_grammar.proofs.PrintedText.{text_more_nodes}
use Rattle.lucy_grammar.proofs.Sheets.{behind, adds_as, nothing}
use Rattle.lucy_grammar.proofs.program.further_nodes.Goals as goal

pub more-preserved : goal.more-preserved
more-preserved c =
    let l = c.more in
    let xs = c.args.list.now in
    let x = c.next-item.result in
    let later = drop (l.next-index + 1) xs in
    let here : drop l.next-index xs ≡ x ∷ later = drop_more xs l.next-index x (omega arith) ∙ ap (λ y. y ∷ later) (sym c.next-item.is) in
    let text : List Node → List ℕ = λ ns. spaced_text (more_nodes (map node_tree ns)) in
    λ end h. l.invariant end (adds_as (behind c.line.ensures (behind c.node.ensures h)) (sym (ap text here ∙ text_more_nodes (node_tree x) (map node_tree later))))

pub returns : goal.returns
returns c =
    let l = c.more in
    let none : drop l.next-index c.args.list.now ≡ [] = drop_all l.next-index c.args.list.now (omega arith) in
    l.invariant l.out (adds_as (nothing l.out) (ap (λ (ns : List Node). spaced_text (more_nodes (map node_tree ns))) (sym none)))
