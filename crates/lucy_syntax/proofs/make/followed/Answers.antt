use Rattle.lucy_tree.specs.Tree.{followed}
use Rattle.lucy_tree.proofs.Trees.{tree_followed}
use Rattle.lucy_syntax.proofs.OnPiles.{wrapped, makes_as}
use Rattle.lucy_syntax.proofs.make.followed.Goals as goal

pub returns : goal.returns
returns c = makes_as _ c.put.result c.put.ensures (λ g under e p. wrapped (λ e. followed c.args.first e c.args.span) p c.in_ok-operand.ensures.top g (tree_followed c.args.first c.in_ok-operand.operand c.args.span))
