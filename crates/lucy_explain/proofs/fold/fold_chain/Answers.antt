use Rattle.std.proofs.Common.{◌<◌, length, sym, ap, subst, ◌∙◌}
use Rattle.std.proofs.lemmas.List.Elements.{All-from_recursion}
use Rattle.lucy_explain.proofs.FoldLaws.{folded_chain}
use Rattle.lucy_explain.proofs.fold.fold_chain.Goals as goal

pub lines_of-requires-clause-there : goal.lines_of-requires-clause-there
lines_of-requires-clause-there c = All-from_recursion (λ p. p < length c.args.diffs.now.list) c.args.chain.now c.requires.there

pub returns-clause-folded : goal.returns-clause-folded
returns-clause-folded c =
    let found = c.in_ok-streams.ensures.are in
    let lines = c.in_ok-lines.ensures in
    folded_chain c.args.needs.now c.args.shape.now c.args.diffs.now c.args.chain.now _ found.0 c.deref.result.now found.1 (c.deref.ensures.value ∙ found.2) c.in_ok-cycle.ensures
    lines.fold lines.stream lines.longest
