use Rattle.std.proofs.Common.{ap, [], ◌∷◌, ◌∙◌}
use Rattle.lucy_tree.specs.Tree.{variable}
use Rattle.lucy_tree.proofs.Trees.{tree_variable}
use Rattle.lucy_syntax.proofs.OnPiles.{lies_as, makes_as}
use Rattle.lucy_syntax.proofs.make.variable.Goals as goal

pub returns : goal.returns
returns c = makes_as _ c.put.result c.put.ensures (λ g. lies_as g (ap (λ t. t ∷ []) (tree_variable c.in_ok-name.name ∙ ap variable c.in_ok-name.ensures)))
