use Rattle.std.proofs.Common.{refl, ◌+◌, ◌<◌, ◌≡◌, length, ap, sym, ◌∙◌, Bool, true, false, not, Some, arith}
use mathlib.Core.Bool.{beq}
use Rattle.lucy_word.specs.Shortest.{Same}
use Rattle.lucy_check.specs.Difference.{IsFirstDifference}
use Rattle.lucy_check.proofs.Agreement.{agree_more, Same-from_agreement}
use Rattle.lucy_check.proofs.OneVerdict.{one_difference}
use Rattle.lucy_check.proofs.Walks.{ahead_more}
use Rattle.lucy_check.proofs.difference.first_difference.Goals as goal

same_bit : (a b : Bool) → not (beq a b) ≡ false → a ≡ b
same_bit true true h = refl
same_bit false false h = refl
same_bit true false h = cc
same_bit false true h = cc

other_bit : (a b : Bool) → not (beq a b) ≡ true → a ≡ b → ⊥
other_bit true true h e = cc
other_bit false false h e = cc
other_bit true false h e = cc
other_bit false true h e = cc

found : (c : goal.Then-step) → IsFirstDifference c.args.a.now c.args.b.now (c.loop-i.i + 1)
found c =
    let a = c.step.ensures.bit ∙ c.loop-i.invariant.0 1 (omega arith) in
    let b = c.step-in-loop-i.ensures.bit ∙ c.loop-i.invariant.1 1 (omega arith) in
    record {
      instant = omega arith;
      differs = λ e. other_bit _ _ c.if-step.true (a ∙ e ∙ sym b);
      first = λ i some less. c.loop-i.invariant.2 i (omega arith) some;
    }

pub returns-then-step-clause-some : goal.returns-then-step-clause-some
returns-then-step-clause-some c = found c

pub returns-then-step-clause-only : goal.returns-then-step-clause-only
returns-then-step-clause-only c at h = ap (λ n. Some n) (one_difference c.args.a.now c.args.b.now (c.loop-i.i + 1) at (found c) h)

pub returns-then-step-clause-none : goal.returns-then-step-clause-none
returns-then-step-clause-none c = (λ h. absurd (cc), λ s. absurd (let d = found c in d.differs (s (c.loop-i.i + 1) d.instant)))

pub loop-i-preserved : goal.loop-i-preserved
loop-i-preserved c =
    let a = c.step.ensures.bit ∙ c.loop-i.invariant.0 1 (omega arith) in
    let b = c.step-in-loop-i.ensures.bit ∙ c.loop-i.invariant.1 1 (omega arith) in (
      ahead_more _ _ _ c.loop-i.i c.loop-i.invariant.0 c.step.ensures.rest,
      ahead_more _ _ _ c.loop-i.i c.loop-i.invariant.1 c.step-in-loop-i.ensures.rest,
      agree_more _ _ c.loop-i.i c.loop-i.invariant.2 (sym a ∙ same_bit _ _ c.if-step.false ∙ b),
    )

same : (c : goal.After-loop-i) → Same c.args.a.now c.args.b.now
same c =
    let some_a : 0 < length c.args.a.now.period = omega (arith, c.lengths-prefix_a.ensures.period, c.lengths-prefix_a.ensures.nonempty) in
    let some_b : 0 < length c.args.b.now.period = omega (arith, c.lengths-prefix_b.ensures.period, c.lengths-prefix_b.ensures.nonempty) in
    Same-from_agreement c.args.a.now c.args.b.now c.loop-i.i some_a some_b (omega arith) c.loop-i.invariant.2

pub returns-clause-only : goal.returns-clause-only
returns-clause-only c at h = absurd (h.differs (same c at h.instant))

pub returns-clause-none : goal.returns-clause-none
returns-clause-none c = (λ _. same c, λ _. refl)
