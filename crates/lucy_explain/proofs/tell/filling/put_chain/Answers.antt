use Rattle.std.proofs.Common.{length, ap, sym, subst}
use Rattle.lucy_front.specs.Refusals.{AreBelow}
use Rattle.lucy_solve.specs.System.{DifferenceSystem}
use Rattle.lucy_explain.proofs.ChainLaws.{chain_below}
use Rattle.lucy_explain.proofs.tell.filling.put_chain.Goals as goal

pub fold_chain-requires-clause-clocks : goal.fold_chain-requires-clause-clocks
fold_chain-requires-clause-clocks c = c.requires.shape.clocks

pub fold_chain-requires-clause-variables : goal.fold_chain-requires-clause-variables
fold_chain-requires-clause-variables c = ap (λ (s : DifferenceSystem). s.count) c.requires.reason.of_needs

pub fold_chain-requires-clause-there : goal.fold_chain-requires-clause-there
fold_chain-requires-clause-there c =
    let r = c.args.reason.now in
    subst (AreBelow (length r.diffs.list)) (sym c.deref.ensures.value) (chain_below r.diffs.list 0 r.chain.items r.variable r.instant c.requires.reason.chain)
