use Rattle.std.proofs.Common.{ℕ, ◌<◌, ◌++◌, length, take, drop, ◌∙◌}
use Rattle.std.proofs.lemmas.List.Elements.{All-same, All-from_recursion, All-append, All-take, All-drop}
use Rattle.lucy_explain.proofs.fold.fold_cycle.Goals as goal

pub lines_of-requires-clause-there : goal.lines_of-requires-clause-there
lines_of-requires-clause-there c =
    let P : ℕ → Type 0 = λ p. p < length c.args.diffs.now.list in
    let cycle = c.args.cycle.now in
    let start = c.start_of-start.result in
    let all = All-from_recursion P cycle c.requires.there in
    All-same P _ (drop start cycle ++ take start cycle) (c.deref.ensures.value ∙ c.in_ok-cycle.ensures)
    (All-append P (drop start cycle) (take start cycle) (All-drop P start cycle all) (All-take P start cycle all))
