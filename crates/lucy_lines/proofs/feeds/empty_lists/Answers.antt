use Rattle.std.proofs.Common.{[], ◌++◌, ◌∷◌, length, ap, ◌∙◌, sym, refl, arith}
use Rattle.std.proofs.lemmas.List.FromFn.{length-map-range_with_len}
use Rattle.lucy_lines.specs.Feeding.{values_of}
use Rattle.lucy_lines.proofs.ListLaws.{one_more_list}
use Rattle.lucy_lines.proofs.feeds.empty_lists.Goals as goal

pub add_list-requires : goal.add_list-requires
add_list-requires c =
    let same = ap length c.loop.invariant in
    let long = length-map-range_with_len (λ stream. values_of stream []) 0 c.loop.counter in
    let few = c.requires in
    let below = c.loop-test.true in
    omega arith

pub loop-preserved : goal.loop-preserved
loop-preserved c = c.in_ok-add_list.ensures.ok ∙ ap (λ u. u ++ [] ∷ []) c.loop.invariant ∙ sym (one_more_list c.loop.counter c.loop.counter refl)
