use Rattle.std.proofs.Common.{◌++◌, ◌∷◌, [], ◌<◌, length, take, ap, sym, ◌∙◌, arith}
use Rattle.std.proofs.lemmas.List.{length-take-le, take_all, take_more}
use Rattle.std.proofs.lemmas.Option.{get_or_from_slice_get}
use Rattle.lucy_results.proofs.lists.copy_lists.Goals as goal

pub add-requires-clause-next : goal.add-requires-clause-next
add-requires-clause-next c =
    let low : c.each.i < length c.args.lists.now = omega (arith, c.each-test.true, c.requires.lists) in
    omega (arith, ap length c.each.invariant, length-take-le c.each.i c.args.lists.now (omega arith))

pub each-preserved : goal.each-preserved
each-preserved c =
    let lists = c.args.lists.now in
    let low : c.each.i < length lists = omega (arith, c.each-test.true, c.requires.lists) in
    c.in_ok-add.ensures ∙ ap (λ ls. ls ++ c.list.result.now ∷ []) c.each.invariant
    ∙ ap (λ x. take c.each.i lists ++ x ∷ []) (sym (get_or_from_slice_get lists c.each.i c.list.result.now [] c.list.ensures))
    ∙ sym (take_more lists c.each.i [] low)

pub returns : goal.returns
returns c = c.each.invariant ∙ take_all c.each.i c.args.lists.now (omega (arith, c.each-test.false, c.requires.lists))
