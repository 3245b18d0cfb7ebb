use Rattle.lucy_tree.specs.Tree.{sampled}
use Rattle.lucy_tree.proofs.Trees.{tree_sampled}
use Rattle.lucy_syntax.proofs.OnPiles.{wrapped, makes_as}
use Rattle.lucy_syntax.proofs.make.sampled.Goals as goal

pub returns : goal.returns
returns c = makes_as _ c.put.result c.put.ensures (λ g under e p. wrapped (λ e. sampled c.args.flip e c.args.word) p c.in_ok-operand.ensures.top g (tree_sampled c.args.flip c.in_ok-operand.operand c.args.word))
