use Rattle.std.proofs.Common.{◌+◌, ◌++◌, List, ℕ, Option, map, drop, ap, sym, ◌∙◌, append_assoc}
use Rattle.lucy_word.proofs.Lists.{drop_next}
use Rattle.lucy_tree.specs.declared.program.Def.{Def}
use Rattle.lucy_tree.specs.View.{def_tree}
use Rattle.lucy_naming.specs.Phrases.{expr_phrase}
use Rattle.lucy_naming.specs.Numbering.{bounds}
use Rattle.lucy_naming.specs.Nodes.{def_bounds}
use Rattle.lucy_naming.proofs.bounds.bounds.Goals as goal

pub each-preserved : goal.each-preserved
each-preserved c =
    let l = c.each in
    let further : List Def → List (Option ℕ) = λ ds. def_bounds (map def_tree ds) in
    let rest = further (drop (l.def-index + 1) c.args.defs.now) in
    let next = drop_next c.args.defs.now l.def-index c.def-item.result c.each-test.true c.def-item.is in
    ap (λ bs. bs ++ rest) c.in_ok-expr_bounds.ensures ∙ append_assoc l.list.items (bounds (expr_phrase c.def-item.result.right)) rest
    ∙ ap (λ ds. l.list.items ++ further ds) (sym next) ∙ l.invariant
