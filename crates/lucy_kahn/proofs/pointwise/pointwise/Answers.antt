use Rattle.std.proofs.Common.{◌≡◌, ◌<◌, ℕ, List, [], ◌∷◌, length, ap, sym, ◌∙◌, arith, rules}
use Rattle.std.specs.Int.{w64}
use mir.Val.{SFits}
use Rattle.std.proofs.lemmas.Int.{to_z-of_z}
use Rattle.std.specs.Prelude.{ℤ}
use Rattle.std.proofs.lemmas.List.FromFn.{length-map-range_with_len}
use Rattle.lucy_host.specs.Arity.{arity}
use Rattle.lucy_host.specs.OpValue.{op_value}
use Rattle.lucy_stream.specs.Items.{item_at}
use Rattle.lucy_stream.specs.Lists.{item_by_item}
use Rattle.lucy_kahn.specs.Outcomes.{most_items}
use Rattle.lucy_kahn.proofs.ListSteps.{mapped_more, grown, too_long}
use Rattle.lucy_kahn.proofs.pointwise.pointwise.Goals as goal

pub returns-in_err-put-clause-limit : goal.returns-in_err-put-clause-limit
returns-in_err-put-clause-limit c =
    let lists : List (List ℤ) = c.args.a.now ∷ c.args.b.now ∷ c.args.c.now ∷ [] in
    let value : ℕ → ℤ = λ k. op_value c.args.op (item_at c.args.a.now k) (item_at c.args.b.now k) (item_at c.args.c.now k) in
    let count : ℕ = c.shortest-k-end.result in
    let made : length c.loop-k.made.items ≡ c.loop-k.k = ap (λ (xs : List ℤ). length xs) c.loop-k.invariant.0 ∙ length-map-range_with_len value 0 c.loop-k.k in
    let whole : length (item_by_item (arity c.args.op) (op_value c.args.op) lists) ≡ count = length-map-range_with_len value 0 _ ∙ sym c.shortest-k-end.ensures in
    too_long c.from_residual.result _ c.loop-k.made.items _ c.from_residual.ensures.1 c.in_err-put.ensures.limit (let l : length c.loop-k.made.items < length (item_by_item (arity c.args.op) (op_value c.args.op) lists) = omega arith in l)

pub loop-k-preserved : goal.loop-k-preserved
loop-k-preserved c =
    let fits_a : SFits w64 c.item.result = search rules in
    let fits_b : SFits w64 c.item-in-loop-k.result = search rules in
    let fits_c : SFits w64 c.item-in-loop-k-2.result = search rules in
    let fits : SFits w64 c.op_value.result = search rules in
    let told = simp to_z-of_z at c.op_value.ensures in
    let is : c.op_value.result ≡ op_value c.args.op (item_at c.args.a.now c.loop-k.k) (item_at c.args.b.now c.loop-k.k) (item_at c.args.c.now c.loop-k.k) =
    told ∙ ap (λ x. op_value c.args.op x c.item-in-loop-k.result c.item-in-loop-k-2.result) c.item.ensures ∙ ap (λ x. op_value c.args.op (item_at c.args.a.now c.loop-k.k) x c.item-in-loop-k-2.result) c.item-in-loop-k.ensures
    ∙ ap (λ x. op_value c.args.op (item_at c.args.a.now c.loop-k.k) (item_at c.args.b.now c.loop-k.k) x) c.item-in-loop-k-2.ensures in
    let new = simp to_z-of_z at c.in_ok-put.ensures.ok.0 in (
      mapped_more (λ k. op_value c.args.op (item_at c.args.a.now k) (item_at c.args.b.now k) (item_at c.args.c.now k)) c.loop-k.made.items _ c.loop-k.k c.op_value.result c.loop-k.invariant.0 new is,
      grown c.loop-k.made.items _ _ most_items new c.in_ok-put.ensures.ok.1,
    )
