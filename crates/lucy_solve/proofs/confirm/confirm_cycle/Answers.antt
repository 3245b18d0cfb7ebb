use Rattle.std.proofs.Common.{◌≡◌, ℕ, ◌<◌, length, get_or, ℤ, pos, ◌<ℤ◌, List, false, ◌==◌, sym, ap, ◌∙◌, subst, arith}
use Rattle.std.specs.Prelude.{IsTrue}
use Rattle.std.proofs.lemmas.Int.{ints}
use Rattle.std.proofs.lemmas.Bool.Decides.{nat_tests}
use lib.Signed.{lt_z}
use Rattle.lucy_solve.specs.declared.diffs.Diff.{Diff}
use Rattle.lucy_solve.specs.System.{DifferenceSystem, diff_at, no_diff, IsNegativeCycle, IsProper}
use Rattle.lucy_solve.proofs.Chains.{Walked, walked_none, walked_more, follows, is_cycle, of_cycle, refuted}
use Rattle.lucy_solve.proofs.confirm.confirm_cycle.Goals as goal

is_below : (z : ℤ) → IsTrue (lt_z z (pos 0)) → z <ℤ pos 0
is_below z h = grind (arith, ints)

below_is : (z : ℤ) → z <ℤ pos 0 → IsTrue (lt_z z (pos 0))
below_is z h = grind (arith, ints)

some_from_test : (n : ℕ) → false ≡ (n == 0) → 0 < n
some_from_test n h = grind (arith, nat_tests)

pub loop-position-init : goal.loop-position-init
loop-position-init c = walked_none _ _ _ (ap (λ (d : Diff). d.left) (c.in-Some.ensures.lookup.3.1 no_diff))

pub returns-then-diff-at-clause-exact : goal.returns-then-diff-at-clause-exact
returns-then-diff-at-clause-exact c = (
  λ h. (cc),
  λ n. let P : List Diff → Type 0 = λ l. IsNegativeCycle l c.args.cycle.now in
      let m : IsNegativeCycle c.list-list.result.now c.args.cycle.now = subst P (sym c.list-list.ensures.list) n in
      absurd (c.if-diff-at.true (ap (λ (d : Diff). d.left) (c.in-Some-get.ensures.lookup.3.1 no_diff) ∙ follows _ _ _ _ _ c.loop-position.invariant m (omega arith))),
)

pub loop-position-preserved : goal.loop-position-preserved
loop-position-preserved c =
    let e = c.in-Some-get.ensures.lookup.3.1 no_diff in
    let inside = c.in-Some-get.ensures.lookup.3.0 in
    let p : IsProper c.args.diffs.now.count (diff_at c.list-list.result.now (get_or c.args.cycle.now c.loop-position.position-index 0)) = rw c.list-list.ensures.list (c.list-list.ensures.proper _ _ (rw (← c.list-list.ensures.list) inside)) in
    let low = p.low in
    let high = p.high in
    let sum = c.loop-position.sum-is in
    let inv_low = c.loop-position.invariant.low in
    let inv_high = c.loop-position.invariant.high in
    let most = ap (λ (d : Diff). d.most) e in
    walked_more _ _ _ _ _ _ _ _ c.loop-position.invariant (omega arith) inside p (sym (ap (λ (d : Diff). d.left) e) ∙ c.if-diff-at.false) (ap (λ (d : Diff). d.right) e) (omega (arith, ints))

whole : (s : DifferenceSystem) (list : List Diff) (cycle : List ℕ) (i at : ℕ) (sum : ℤ) → list ≡ s.list → Walked list cycle i at sum → i ≡ length cycle → Walked s.list cycle (length cycle) at sum
whole s list cycle i at sum e w f = let P : List Diff → ℕ → Type 0 = λ l i. Walked l cycle i at sum in
    subst (P s.list) f (subst (λ (l : List Diff). P l i) e w)

pub returns-then-at-first-clause-exact : goal.returns-then-at-first-clause-exact
returns-then-at-first-clause-exact c =
    let w = whole c.args.diffs.now _ _ _ _ _ c.list-list.ensures.list c.loop-position.invariant (omega arith) in
    let first : (diff_at c.args.diffs.now.list (get_or c.args.cycle.now 0 0)).left ≡ c.in-Some.first.now.left =
    ap (λ (l : List Diff). (diff_at l (get_or c.args.cycle.now 0 0)).left) (sym c.list-list.ensures.list) ∙ sym (ap (λ (d : Diff). d.left) (c.in-Some.ensures.lookup.3.1 no_diff)) in
    let some : 0 < length c.args.cycle.now = some_from_test _ c.if-is_empty.ensures in (
      λ h. is_cycle _ _ _ _ w some (omega arith) (c.if-at-first.true ∙ sym first) (is_below _ h),
      λ n. below_is _ ((of_cycle _ _ _ _ w n).1),
    )

pub returns-then-at-first-clause-refutes : goal.returns-then-at-first-clause-refutes
returns-then-at-first-clause-refutes c = λ h. refuted c.args.diffs.now c.args.cycle.now ((returns-then-at-first-clause-exact c).0 h)

pub returns-else-at-first-clause-exact : goal.returns-else-at-first-clause-exact
returns-else-at-first-clause-exact c =
    let w = whole c.args.diffs.now _ _ _ _ _ c.list-list.ensures.list c.loop-position.invariant (omega arith) in
    let first : (diff_at c.args.diffs.now.list (get_or c.args.cycle.now 0 0)).left ≡ c.in-Some.first.now.left =
    ap (λ (l : List Diff). (diff_at l (get_or c.args.cycle.now 0 0)).left) (sym c.list-list.ensures.list) ∙ sym (ap (λ (d : Diff). d.left) (c.in-Some.ensures.lookup.3.1 no_diff)) in (
      λ h. absurd (c.if-at-first.false (grind (arith, nat_tests))),
      λ n. absurd (c.if-at-first.false ((of_cycle _ _ _ _ w n).0 ∙ first)),
    )
