use Rattle.std.proofs.Common.{◌≡◌, ◌+◌, ◌-◌, ◌≤◌, ℕ, List, [], ◌∷◌, ◌++◌, length, ap, sym, subst, ◌∙◌, arith, rules}
use Rattle.std.specs.Int.{w64}
use mir.Val.{SFits}
use Rattle.std.proofs.lemmas.Int.{to_z-of_z}
use Rattle.std.specs.Prelude.{ℤ, Option}
use Rattle.lucy_stream.specs.Merges.{merge_item, items_past, merged}
use Rattle.lucy_kahn.specs.Outcomes.{most_items}
use Rattle.lucy_kahn.proofs.ListSteps.{items_one, items_none, items_end, whole_at_end, moved_on, longer, grown, too_long}
use Rattle.lucy_kahn.proofs.merging.merged.Goals as goal

pub returns-in_default-clause-ok : goal.returns-in_default-clause-ok
returns-in_default-clause-ok c =
    let f : ℕ → Option ℤ = merge_item c.args.word.now c.args.a.now c.args.b.now in
    let end : ℕ = length c.args.a.now + length c.args.b.now in
    let at : ℕ = c.loop-passed.passed in
    let none : items_past f at (end - at) ≡ [] = items_none f at end (omega arith) (sym c.in_default.ensures) in
    let is = whole_at_end c.loop-passed.made.items _ (ap (λ t. c.loop-passed.made.items ++ t) (sym none) ∙ c.loop-passed.invariant.0) in
    (is, subst (λ xs. length xs ≤ most_items) is c.loop-passed.invariant.1)

pub returns-in_err-put-clause-limit : goal.returns-in_err-put-clause-limit
returns-in_err-put-clause-limit c =
    let f : ℕ → Option ℤ = merge_item c.args.word.now c.args.a.now c.args.b.now in
    let end : ℕ = length c.args.a.now + length c.args.b.now in
    let at : ℕ = c.loop-passed.passed in
    let one : items_past f at (end - at) ≡ c.in-Some.next ∷ items_past f (at + 1) (end - (at + 1)) = items_one f at end c.in-Some.next (omega arith) (sym c.in-Some.ensures) in
    too_long c.from_residual.result _ c.loop-passed.made.items (merged c.args.word.now c.args.a.now c.args.b.now) c.from_residual.ensures.1 c.in_err-put.ensures.limit
    (longer c.loop-passed.made.items (items_past f (at + 1) (end - (at + 1))) _ c.in-Some.next (ap (λ t. c.loop-passed.made.items ++ t) (sym one) ∙ c.loop-passed.invariant.0))

pub loop-passed-preserved : goal.loop-passed-preserved
loop-passed-preserved c =
    let f : ℕ → Option ℤ = merge_item c.args.word.now c.args.a.now c.args.b.now in
    let end : ℕ = length c.args.a.now + length c.args.b.now in
    let at : ℕ = c.loop-passed.passed in
    let rest : List ℤ = items_past f (at + 1) (end - (at + 1)) in
    let one : items_past f at (end - at) ≡ c.in-Some.next ∷ rest = items_one f at end c.in-Some.next (omega arith) (sym c.in-Some.ensures) in
    let fits : SFits w64 c.in-Some.next = search rules in
    let new = simp to_z-of_z at c.in_ok-put.ensures.ok.0 in (
      ap (λ m. m ++ rest) new ∙ moved_on c.loop-passed.made.items rest _ c.in-Some.next (ap (λ t. c.loop-passed.made.items ++ t) (sym one) ∙ c.loop-passed.invariant.0),
      grown c.loop-passed.made.items _ _ most_items new c.in_ok-put.ensures.ok.1,
    )

pub returns-clause-ok : goal.returns-clause-ok
returns-clause-ok c =
    let f : ℕ → Option ℤ = merge_item c.args.word.now c.args.a.now c.args.b.now in
    let end : ℕ = length c.args.a.now + length c.args.b.now in
    let none : items_past f c.loop-passed.passed (end - c.loop-passed.passed) ≡ [] = items_end f c.loop-passed.passed end (omega arith) in
    let is = whole_at_end c.loop-passed.made.items _ (ap (λ t. c.loop-passed.made.items ++ t) (sym none) ∙ c.loop-passed.invariant.0) in
    (is, subst (λ xs. length xs ≤ most_items) is c.loop-passed.invariant.1)
