use Rattle.std.proofs.Common.{ap, ◌∙◌}
use Rattle.lucy_word.specs.Bits.{Bits}
use Rattle.lucy_tree.specs.Tree.{merged}
use Rattle.lucy_tree.specs.View.{tree_of}
use Rattle.lucy_tree.proofs.Trees.{tree_merged}
use Rattle.lucy_grammar.specs.Meanings.{token_word}
use Rattle.lucy_syntax.proofs.OnPiles.{joined, makes_as}
use Rattle.lucy_syntax.proofs.make.merged.Goals as goal

pub returns : goal.returns
returns c =
    let one = c.in_ok-one.one in
    let zero = c.in_ok-zero.zero in
    let by = ap (λ (w : Bits). merged w (tree_of one.value) (tree_of zero.value) c.args.span) c.in_ok-word.ensures in
    makes_as _ c.put.result c.put.ensures
    (λ g under a b p. joined (λ x y. merged (token_word c.args.word.now.what) x y c.args.span) p c.in_ok-zero.ensures.top c.in_ok-one.ensures.top g (tree_merged c.in_ok-word.word one zero c.args.span ∙ by))
