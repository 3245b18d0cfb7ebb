use Rattle.std.proofs.Common.{arith, ap, ◌∙◌}
use Rattle.lucy_tree.specs.Tree.{host}
use Rattle.lucy_tree.specs.View.{all_trees, expr_list}
use Rattle.lucy_tree.specs.declared.span.Name as name
use Rattle.lucy_tree.proofs.Trees.{tree_host}
use Rattle.lucy_grammar.specs.Meanings.{token_name}
use Rattle.lucy_syntax.proofs.OnPiles.{grouped, higher, makes_as}
use Rattle.lucy_syntax.proofs.make.hosted.Goals as goal

pub returns : goal.returns
returns c =
    let named = ap (λ (n : name.Name). host n (all_trees (expr_list c.in_ok-args.args))) c.in_ok-name.ensures in
    makes_as _ c.put.result c.put.ensures
    (λ g under a b p. grouped (host (token_name c.args.name.now)) c.in_ok-args.args c.saturating_sub-from.result (omega (arith, higher p, c.saturating_sub-from.ensures, c.len.ensures)) p c.in_ok-args.ensures g (tree_host c.in_ok-name.name c.in_ok-args.args ∙ named))
