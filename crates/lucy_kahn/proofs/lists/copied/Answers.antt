use Rattle.std.proofs.Common.{◌≤◌, [], length, get_or, subst, arith, rules}
use Rattle.std.specs.Prelude.{pos}
use Rattle.std.specs.Int.{w64}
use mir.Val.{SFits}
use Rattle.std.proofs.lemmas.Int.{to_z-of_z}
use Rattle.lucy_kahn.specs.Outcomes.{most_items}
use Rattle.lucy_kahn.proofs.ListSteps.{copied_more, copied_end, copied_short, grown, too_long}
use Rattle.lucy_kahn.proofs.lists.copied.Goals as goal

pub loop-item-preserved : goal.loop-item-preserved
loop-item-preserved c =
    let fits : SFits w64 (get_or c.args.list.now c.loop-item.item-index (pos 0)) = search rules in
    let new = simp to_z-of_z at c.in_ok-put.ensures.ok.0 in (
      copied_more [] c.args.list.now c.loop-item.made.items _ c.loop-item.item-index (omega arith) new c.loop-item.invariant.0,
      grown c.loop-item.made.items _ _ most_items new c.in_ok-put.ensures.ok.1,
    )

pub returns-in_err-put-clause-limit : goal.returns-in_err-put-clause-limit
returns-in_err-put-clause-limit c =
    too_long c.from_residual.result _ c.loop-item.made.items _ c.from_residual.ensures.1 c.in_err-put.ensures.limit
    (copied_short [] c.args.list.now c.loop-item.made.items c.loop-item.item-index (omega arith) c.loop-item.invariant.0)

pub returns-clause-ok : goal.returns-clause-ok
returns-clause-ok c =
    let is = copied_end [] c.args.list.now c.loop-item.made.items c.loop-item.item-index (omega arith) c.loop-item.invariant.0 in
    (is, subst (λ xs. length xs ≤ most_items) is c.loop-item.invariant.1)
