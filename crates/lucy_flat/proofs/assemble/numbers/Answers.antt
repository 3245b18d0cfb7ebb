use Rattle.std.proofs.Common.{◌++◌, ◌∷◌, ◌+◌, [], ap, sym, ◌∙◌}
use Rattle.lucy_word.proofs.Lists.{range_more}
use Rattle.lucy_flat.proofs.assemble.numbers.Goals as goal

pub each-preserved : goal.each-preserved
each-preserved c = c.in_ok-push.ensures.items ∙ ap (λ t. t ++ (c.args.first + c.each.i) ∷ []) c.each.invariant ∙ sym (range_more c.args.first c.each.i)
