use Rattle.std.proofs.Common.{arith, ap, ◌∙◌, Option}
use Rattle.lucy_word.specs.Bits.{Bits}
use Rattle.lucy_tree.specs.Tree.{call}
use Rattle.lucy_tree.specs.View.{all_trees, expr_list}
use Rattle.lucy_tree.specs.declared.span.Name as name
use Rattle.lucy_tree.proofs.Trees.{tree_call}
use Rattle.lucy_grammar.specs.Meanings.{token_name}
use Rattle.lucy_syntax.specs.Piles.{base_word}
use Rattle.lucy_syntax.proofs.OnPiles.{grouped, makes_as}
use Rattle.lucy_syntax.proofs.make.called.Goals as goal

pub returns : goal.returns
returns c =
    let args = all_trees (expr_list c.in_ok-args.args) in
    let named = ap (λ (x : name.Name). call x c.in_ok-at.at args) c.in_ok-node.ensures in
    let based = ap (λ (w : Option Bits). call (token_name c.args.name.now) w args) c.in_ok-at.ensures in
    makes_as _ c.put.result c.put.ensures
    (λ g under es n p. grouped (call (token_name c.args.name.now) (base_word c.args.base)) c.in_ok-args.args c.args.from (omega (arith, n)) p c.in_ok-args.ensures g (tree_call c.in_ok-node.node c.in_ok-at.at c.in_ok-args.args ∙ named ∙ based))
