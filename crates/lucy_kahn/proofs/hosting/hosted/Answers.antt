use Rattle.std.proofs.Common.{◌≡◌, ◌<◌, ℕ, List, [], ◌∷◌, length, ap, ◌∙◌, arith, rules}
use Rattle.std.specs.Prelude.{ℤ, min}
use Rattle.std.specs.Int.{w64}
use mir.Val.{SFits}
use Rattle.std.proofs.lemmas.Int.{to_z-of_z}
use Rattle.std.proofs.lemmas.List.FromFn.{length-map-range_with_len}
use Rattle.lucy_host.specs.Host.{lent}
use Rattle.lucy_host.specs.HostValue.{hosted_value}
use Rattle.lucy_host.specs.Operators.{kinds_of}
use Rattle.lucy_stream.specs.Items.{item_at}
use Rattle.lucy_stream.specs.Lists.{item_by_item}
use Rattle.lucy_kahn.specs.Outcomes.{most_items}
use Rattle.lucy_kahn.proofs.ListSteps.{mapped_more, grown, too_long}
use Rattle.lucy_kahn.proofs.hosting.hosted.Goals as goal

pub returns-in_err-put-clause-limit : goal.returns-in_err-put-clause-limit
returns-in_err-put-clause-limit g c =
    let lists : List (List ℤ) = c.args.a.now ∷ c.args.b.now ∷ [] in
    let value : ℕ → ℤ = λ k. hosted_value (kinds_of (lent c.args.host.now)) c.args.op (item_at c.args.a.now k) (item_at c.args.b.now k) in
    let made : length c.loop-k.made.items ≡ c.loop-k.k = ap (λ (xs : List ℤ). length xs) c.loop-k.invariant.0 ∙ length-map-range_with_len value 0 c.loop-k.k in
    let whole : length (item_by_item 2 (λ x y z. hosted_value (kinds_of (lent c.args.host.now)) c.args.op x y) lists) ≡ min (length c.args.a.now) (length c.args.b.now) = length-map-range_with_len value 0 (min (length c.args.a.now) (length c.args.b.now)) in
    too_long c.from_residual.result _ c.loop-k.made.items _ c.from_residual.ensures.1 c.in_err-put.ensures.limit
    (let l : length c.loop-k.made.items < length (item_by_item 2 (λ x y z. hosted_value (kinds_of (lent c.args.host.now)) c.args.op x y) lists) = omega arith in l)

pub loop-k-preserved : goal.loop-k-preserved
loop-k-preserved g c =
    let fits_a : SFits w64 c.item.result = search rules in
    let fits_b : SFits w64 c.item-in-loop-k.result = search rules in
    let fits : SFits w64 c.call.result = search rules in
    let told = simp to_z-of_z at c.call.ensures in
    let is : c.call.result ≡ hosted_value (kinds_of (lent c.args.host.now)) c.args.op (item_at c.args.a.now c.loop-k.k) (item_at c.args.b.now c.loop-k.k) =
    told ∙ ap (λ x. hosted_value (kinds_of (lent c.args.host.now)) c.args.op x c.item-in-loop-k.result) c.item.ensures
    ∙ ap (λ x. hosted_value (kinds_of (lent c.args.host.now)) c.args.op (item_at c.args.a.now c.loop-k.k) x) c.item-in-loop-k.ensures in
    let new = simp to_z-of_z at c.in_ok-put.ensures.ok.0 in (
      mapped_more (λ k. hosted_value (kinds_of (lent c.args.host.now)) c.args.op (item_at c.args.a.now k) (item_at c.args.b.now k)) c.loop-k.made.items _ c.loop-k.k c.call.result c.loop-k.invariant.0 new is,
      grown c.loop-k.made.items _ _ most_items new c.in_ok-put.ensures.ok.1,
    )
