use Rattle.std.proofs.Common.{subst, arith}
use Rattle.std.proofs.lemmas.List.{take_all}
use Rattle.lucy_types.specs.Nodes.{tables_of}
use Rattle.lucy_types.specs.Programs.{IsTyped}
use Rattle.lucy_types.proofs.typing.found.Goals as goal

pub returns-clause-ok : goal.returns-clause-ok
returns-clause-ok c =
    let end = c.nodes-node-end.ensures.count in
    subst (λ ns. IsTyped ns (tables_of c.each.nodes.items)) (take_all c.each.node c.args.placed.now.nodes (omega arith)) c.each.invariant.typed
