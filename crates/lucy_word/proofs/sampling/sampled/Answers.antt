use Rattle.std.proofs.Common.{◌+◌, ◌≤◌, ℕ, refl, sym, ◌∙◌, arith}
use Rattle.lucy_word.specs.Bits.{Bits, most_bits}
use Rattle.lucy_word.specs.Sampling.{AreComputedLengths, IsOnTooLong}
use Rattle.lucy_word.proofs.SamplingLaws.{IsComputedLength-one}
use Rattle.lucy_word.proofs.sampling.sampled.Goals as goal

short : (a b : Bits) (prefix period : ℕ) → AreComputedLengths a b prefix period → prefix + period ≤ most_bits → IsOnTooLong a b → ⊥
short a b prefix period are few (count, is, long) = omega (arith, IsComputedLength-one a b count (prefix + period) is (prefix, period, are, refl))

pub returns-clause-is : goal.returns-clause-is
returns-clause-is c i h = sym (c.in_ok-shortest.ensures.same i h) ∙ c.in_ok-prefix.ensures.on i h

pub returns-clause-too_long : goal.returns-clause-too_long
returns-clause-too_long c =
    (λ e. absurd (cc e), λ long. absurd (short c.args.a.now c.args.b.now _ _ c.in-Some.ensures.lengths c.in-Some.ensures.short long))
