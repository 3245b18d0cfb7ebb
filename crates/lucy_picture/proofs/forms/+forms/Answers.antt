use Rattle.std.proofs.Common.{◌≡◌, ◌+◌, List, map, drop, ap, sym, ◌∙◌}
use Rattle.std.specs.Prelude.{fold}
use Rattle.std.proofs.lemmas.List.Sums.{fold-append}
use Rattle.lucy_word.proofs.Lists.{drop_next}
use Rattle.lucy_tree.specs.declared.expr.Expr.{Expr}
use Rattle.lucy_tree.specs.Tree.{Tree, trees_of}
use Rattle.lucy_tree.specs.View.{tree_of}
use Rattle.lucy_picture.specs.Forms.{forms, all_forms}
use Rattle.lucy_picture.specs.Seeking.{seek, seen}
use Rattle.lucy_picture.proofs.forms.+forms.Goals as goal

pub inside_all-each-preserved : goal.inside_all-each-preserved
inside_all-each-preserved t c =
    let l = c.each in
    let further : List Expr → List Tree = λ es. all_forms (trees_of (map tree_of es)) in
    let rest = further (drop (l.expr-index + 1) c.args.list.now) in
    let next = drop_next c.args.list.now l.expr-index c.expr-item.result c.each-test.true c.expr-item.is in
    ap (λ at. fold seek at rest) c.inside-at.ensures ∙ sym (fold-append seek (seen l.at) (forms 1 (tree_of c.expr-item.result)) rest)
    ∙ ap (λ es. fold seek (seen l.at) (further es)) (sym next) ∙ l.invariant
