use Rattle.lucy_tree.specs.Tree.{buffered}
use Rattle.lucy_tree.proofs.Trees.{tree_buffered}
use Rattle.lucy_syntax.proofs.OnPiles.{wrapped, makes_as}
use Rattle.lucy_syntax.proofs.make.buffered.Goals as goal

pub returns : goal.returns
returns c = makes_as _ c.put.result c.put.ensures (λ g under e p. wrapped (λ e. buffered c.args.most e c.args.span) p c.in_ok-operand.ensures.top g (tree_buffered c.args.most c.in_ok-operand.operand c.args.span))
