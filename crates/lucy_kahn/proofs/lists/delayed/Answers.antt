use Rattle.std.proofs.Common.{◌<◌, ◌≤◌, ◌++◌, [], ◌∷◌, List, length, get_or, ap, subst, ◌∙◌, arith, rules}
use Rattle.std.specs.Prelude.{ℤ, pos}
use Rattle.std.specs.Int.{w64}
use mir.Val.{SFits, to_z, of_z}
use Rattle.std.proofs.lemmas.Int.{to_z-of_z}
use Rattle.lucy_kahn.specs.Outcomes.{most_items}
use Rattle.lucy_kahn.proofs.ListSteps.{copied_more, copied_end, copied_short, grown, too_long}
use Rattle.lucy_kahn.proofs.lists.delayed.Goals as goal

pub loop-item-init : goal.loop-item-init
loop-item-init c =
    let item : ℤ = to_z w64 (of_z w64 c.args.first) in
    let new = c.in_ok-put.ensures.ok.0 in
    (new ∙ ap (λ m. m ++ item ∷ []) c.new-made.ensures.items, grown c.new-made.result.items _ _ most_items new c.in_ok-put.ensures.ok.1)

pub loop-item-preserved : goal.loop-item-preserved
loop-item-preserved c =
    let fits : SFits w64 (get_or c.args.list.now c.loop-item.item-index (pos 0)) = search rules in
    let new = simp to_z-of_z at c.in_ok-put-2.ensures.ok.0 in (
      copied_more (to_z w64 (of_z w64 c.args.first) ∷ []) c.args.list.now c.loop-item.made.items _ c.loop-item.item-index (omega arith) new c.loop-item.invariant.0,
      grown c.loop-item.made.items _ _ most_items new c.in_ok-put-2.ensures.ok.1,
    )

pub returns-in_err-put-clause-limit : goal.returns-in_err-put-clause-limit
returns-in_err-put-clause-limit c =
    let none = ap (λ (xs : List ℤ). length xs) c.new-made.ensures.items in
    too_long c.from_residual.result _ c.new-made.result.items (c.args.first ∷ c.args.list.now) c.from_residual.ensures.1 c.in_err-put.ensures.limit
    (let l : length c.new-made.result.items < length (c.args.first ∷ c.args.list.now) = omega arith in l)

pub returns-in_err-put-2-clause-limit : goal.returns-in_err-put-2-clause-limit
returns-in_err-put-2-clause-limit c =
    too_long c.from_residual-in_err-put-2.result _ c.loop-item.made.items (c.args.first ∷ c.args.list.now) c.from_residual-in_err-put-2.ensures.1 c.in_err-put-2.ensures.limit
    (copied_short (to_z w64 (of_z w64 c.args.first) ∷ []) c.args.list.now c.loop-item.made.items c.loop-item.item-index (omega arith) c.loop-item.invariant.0)

pub returns-clause-ok : goal.returns-clause-ok
returns-clause-ok c =
    let is = copied_end (to_z w64 (of_z w64 c.args.first) ∷ []) c.args.list.now c.loop-item.made.items c.loop-item.item-index (omega arith) c.loop-item.invariant.0 ∙ ap (λ x. x ∷ c.args.list.now) (to_z-of_z w64 c.args.first c.ranges.first) in
    (is, subst (λ xs. length xs ≤ most_items) is c.loop-item.invariant.1)
