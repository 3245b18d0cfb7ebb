use Rattle.std.proofs.Common.{◌≡◌, ◌+◌, ◌++◌, ℕ, Bool, List, length, ap, sym, ◌∙◌, subst, arith, length-append}
use Rattle.lucy_word.specs.Bits.{Bits}
use Rattle.lucy_word.specs.SamplingSteps.{IsLeft, AreFirstOn}
use Rattle.lucy_word.specs.Packing.{limb_bits}
use Rattle.lucy_word.proofs.LimbLaws.{length-limb_bits}
use Rattle.lucy_word.proofs.StepLaws.{IsLeft-none, IsLeft-more, AreFirstOn-more}
use Rattle.lucy_word.proofs.sampling.steps.Goals as goal

start : (a b : Bits) (bits : List Bool) → length bits ≡ 0 → AreFirstOn a b bits × IsLeft a b (length bits) a b
start a b bits none = (λ k h. absurd (omega arith), subst (λ n. IsLeft a b n a b) (sym none) (IsLeft-none a b))

pub limbs-init : goal.limbs-init
limbs-init c =
    let none : length c.new-made.result ≡ 0 = ap length c.new-made.ensures in
    let s = start c.args.a.now c.args.b.now c.new-made.result none in
    record { within = omega arith; bits = s.0; left = s.1 }

longer : (bits new : List Bool) (n limb : ℕ) → new ≡ bits ++ limb_bits n limb → length new ≡ length bits + n
longer bits new n limb is = ap length is ∙ length-append bits (limb_bits n limb) ∙ ap (λ k. length bits + k) (length-limb_bits n limb)

pub limbs-preserved : goal.limbs-preserved
limbs-preserved c =
    let a : Bits = c.args.a.now in
    let b : Bits = c.args.b.now in
    let n : ℕ = c.min-some.result in
    let size : length c.push.new.self ≡ length c.limbs.made + n = longer c.limbs.made c.push.new.self n c.step.result c.in_ok-push.ensures in
    record {
      within = omega (arith, size, c.min-some.ensures, c.len-in-limbs.ensures.len);
      bits = AreFirstOn-more a b c.limbs.a c.limbs.b c.limbs.made c.push.new.self n c.step.result c.limbs.invariant.bits c.limbs.invariant.left c.in_ok-push.ensures c.step.ensures.bits;
      left = subst (λ k. IsLeft a b k c.step.new.a c.step.new.b) (sym size)
          (IsLeft-more a b c.limbs.a c.limbs.b c.step.new.a c.step.new.b (length c.limbs.made) n c.limbs.invariant.left c.step.ensures.left);
    }

pub limbs-smaller : goal.limbs-smaller
limbs-smaller c =
    omega (arith, longer c.limbs.made c.push.new.self c.min-some.result c.step.result c.in_ok-push.ensures, c.min-some.ensures, c.len-in-limbs.ensures.len, c.len.ensures.len, c.limbs-test.true)

pub returns-clause-count : goal.returns-clause-count
returns-clause-count c = omega (arith, ap length c.in_ok-count.ensures, c.len.ensures.len, c.limbs-test.false, c.limbs.invariant.within)

pub returns-clause-bits : goal.returns-clause-bits
returns-clause-bits c = subst (λ bits. AreFirstOn c.args.a.now c.args.b.now bits) (sym c.in_ok-count.ensures) c.limbs.invariant.bits

pub returns-clause-left : goal.returns-clause-left
returns-clause-left c =
    let all : length c.limbs.made ≡ c.args.len = omega (arith, c.len.ensures.len, c.limbs-test.false, c.limbs.invariant.within) in
    subst (λ k. IsLeft c.args.a.now c.args.b.now k c.limbs.a c.limbs.b) all c.limbs.invariant.left
