use Rattle.std.proofs.Common.{arith}
use Rattle.lucy_tree.specs.Tree.{operator}
use Rattle.lucy_tree.proofs.Trees.{tree_operator}
use Rattle.lucy_syntax.proofs.OnPiles.{grouped, higher, makes_as}
use Rattle.lucy_syntax.proofs.make.operator.Goals as goal

pub returns : goal.returns
returns c =
    makes_as _ c.put.result c.put.ensures
    (λ g under es n p. grouped (λ ts. operator c.args.op ts c.args.span) c.in_ok-args.args c.saturating_sub-from.result (omega (arith, n, higher p, c.saturating_sub-from.ensures, c.len.ensures)) p c.in_ok-args.ensures g (tree_operator c.args.op c.in_ok-args.args c.args.span))
