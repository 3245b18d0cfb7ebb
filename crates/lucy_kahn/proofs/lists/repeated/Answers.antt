use Rattle.std.proofs.Common.{◌≡◌, ◌<◌, ◌≤◌, ◌++◌, [], ◌∷◌, List, length, replicate, ap, subst, ◌∙◌, arith}
use Rattle.std.specs.Prelude.{ℤ}
use Rattle.std.specs.Int.{w64}
use mir.Val.{to_z, of_z}
use Rattle.std.proofs.lemmas.Int.{to_z-of_z}
use Rattle.std.proofs.lemmas.List.{length-replicate, replicate_more}
use Rattle.lucy_kahn.specs.Outcomes.{most_items}
use Rattle.lucy_kahn.proofs.ListSteps.{grown, too_long}
use Rattle.lucy_kahn.proofs.lists.repeated.Goals as goal

pub loop-copy-preserved : goal.loop-copy-preserved
loop-copy-preserved c =
    let item : ℤ = to_z w64 (of_z w64 c.args.literal) in
    let new = c.in_ok-put.ensures.ok.0 in (
      new ∙ ap (λ m. m ++ item ∷ []) c.loop-copy.invariant.0 ∙ replicate_more c.loop-copy.copy item,
      grown c.loop-copy.made.items _ _ most_items new c.in_ok-put.ensures.ok.1,
    )

pub returns-in_err-put-clause-limit : goal.returns-in_err-put-clause-limit
returns-in_err-put-clause-limit c =
    let made = ap (λ (xs : List ℤ). length xs) c.loop-copy.invariant.0 ∙ length-replicate c.loop-copy.copy (to_z w64 (of_z w64 c.args.literal)) in
    too_long c.from_residual.result _ c.loop-copy.made.items _ c.from_residual.ensures.1 c.in_err-put.ensures.limit
    (let l : length c.loop-copy.made.items < length (replicate c.args.copies c.args.literal) = omega (arith, length-replicate c.args.copies c.args.literal) in l)

pub returns-clause-ok : goal.returns-clause-ok
returns-clause-ok c =
    let z : c.loop-copy.copy ≡ c.args.copies = omega arith in
    let item : ℤ = to_z w64 (of_z w64 c.args.literal) in
    let is = c.loop-copy.invariant.0 ∙ ap (λ n. replicate n item) z ∙ ap (λ x. replicate c.args.copies x) (to_z-of_z w64 c.args.literal c.ranges.literal) in
    (is, subst (λ xs. length xs ≤ most_items) is c.loop-copy.invariant.1)
