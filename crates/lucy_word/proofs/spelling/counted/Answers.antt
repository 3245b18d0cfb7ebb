use Rattle.std.proofs.Common.{◌≡◌, ◌+◌, ◌*◌, ◌-◌, ℕ, List, length, min, ap, sym, ◌∙◌, subst, arith}
use Rattle.lucy_word.specs.Cutting.{most_count}
use Rattle.lucy_word.proofs.CuttingLaws.{Counting, counting_first, counting_more, counting_ends, counting_left}
use Rattle.lucy_word.proofs.spelling.counted.Goals as goal

pub digits-init : goal.digits-init
digits-init c = record { most = omega arith; shorter = omega arith; so = λ ds more h e. counting_first c.args.text.now ds more h e }

pub returns-then-c-eq125-clause-counted : goal.returns-then-c-eq125-clause-counted
returns-then-c-eq125-clause-counted c ds more h e =
    counting_ends c.args.text.now c.digits.rest.now c.digits.value ds more c.in-Some.c.now c.in-Some.more.now (c.digits.invariant.so ds more h e) c.in-Some.ensures.cases.0 (omega (arith, c.if-c-eq125.true))

pub digits-preserved : goal.digits-preserved
digits-preserved c =
    let T : List ℕ = c.args.text.now in
    let v : c.min-value.result ≡ min (c.digits.value * 10 + (c.in-Some.c.now - 48)) most_count =
    c.min-value.ensures ∙ ap (λ (s : ℕ). min (c.digits.value * 10 + s) (c.number-most.result + 1)) c.saturating_sub.ensures
    ∙ ap (λ (m : ℕ). min (c.digits.value * 10 + (c.in-Some.c.now - 48)) m) (let e : c.number-most.result + 1 ≡ most_count = omega (arith, c.number-most.ensures) in e) in
    record {
      most = omega (arith, v);
      shorter = omega (arith, ap length c.in-Some.ensures.cases.0, c.digits.invariant.shorter);
      so = λ ds more h e.
          subst (λ (n : ℕ). Counting T c.in-Some.more.now n ds more) (sym v)
          (counting_more T c.digits.rest.now c.digits.value ds more c.in-Some.c.now c.in-Some.more.now (c.digits.invariant.so ds more h e) c.in-Some.ensures.cases.0 (λ k. omega (arith, c.if-c-eq125.false, k)));
    }

pub returns-clause-counted : goal.returns-clause-counted
returns-clause-counted c ds more h e = absurd (counting_left c.args.text.now c.digits.rest.now c.digits.value ds more (c.digits.invariant.so ds more h e) c.in_default.ensures.cases)
