use Rattle.std.proofs.Common.{◌≡◌, ◌*◌, ◌/◌, ℕ, max, length, sym, refl, subst, arith}
use Rattle.std.specs.Prelude.{Option, IfNone}
use Rattle.lucy_word.specs.Bits.{Bits, ones_in}
use Rattle.lucy_word.specs.Index.{IsIndex}
use Rattle.lucy_word.specs.Multiple.{IsLcm}
use Rattle.lucy_word.specs.Sampling.{AreComputedLengths, IsOnTooLong}
use Rattle.lucy_word.proofs.sampling.computed_lengths.Goals as goal
use Rattle.lucy_word.proofs.sampling.computed_lengths.Goals.{else-prefix-most-via-then-prefix-most+else-period-most, else-prefix-most-via-else-prefix-most}

-- the lengths, from what the calls answered
lengths_of : (a b : Bits) (prefix_a period_a prefix_b period_b ones place common : ℕ) → prefix_a ≡ length a.prefix → period_a ≡ length a.period →
    prefix_b ≡ length b.prefix → period_b ≡ length b.period → ones ≡ ones_in a.period → IsIndex a prefix_b place → IsLcm ones period_b common →
    AreComputedLengths a b (max prefix_a place) (common / ones * period_a)
lengths_of a b prefix_a period_a prefix_b period_b ones place common e f g h i is_place is_common =
    let P : ℕ → Type 0 = λ n. IsIndex a n place in
    let Q : ℕ → Type 0 = λ n. IsLcm n period_b common in
    let R : ℕ → Type 0 = λ n. IsLcm (ones_in a.period) n common in
    record { place = place; last_read = subst P g is_place; of_prefix = omega arith; ones = common; common = subst R h (subst Q i is_common); of_period = cc }

pub returns-in_err-index-clause-too_long : goal.returns-in_err-index-clause-too_long
returns-in_err-index-clause-too_long c =
    let far = c.in_err-index.ensures.none.0 refl in
    let are = lengths_of c.args.a.now c.args.b.now c.lengths-prefix_a.result.0 c.rate-ones_a.result.1 c.lengths-prefix_b.result.0 c.rate-period_b.result.1
    c.rate-ones_a.result.0 far.0 c.lcm.result c.lengths-prefix_a.ensures.prefix c.rate-ones_a.ensures.length c.lengths-prefix_b.ensures.prefix
    c.rate-period_b.ensures.length c.rate-ones_a.ensures.ones far.1 c.lcm.ensures.least in
    let long : IsOnTooLong c.args.a.now c.args.b.now = (_, (_, _, are, refl), omega (arith, far.2)) in
    let P : Option (ℕ × ℕ) → Type 0 = λ r. IfNone r (IsOnTooLong c.args.a.now c.args.b.now) in
    subst P (sym c.from_residual.ensures) long

pub returns-else-prefix-most-clause-too_long : goal.returns-else-prefix-most-clause-too_long
returns-else-prefix-most-clause-too_long c =
    let are = lengths_of c.args.a.now c.args.b.now c.lengths-prefix_a.result.0 c.rate-ones_a.result.1 c.lengths-prefix_b.result.0 c.rate-period_b.result.1
    c.rate-ones_a.result.0 c.in_ok-index.field-0 c.lcm.result c.lengths-prefix_a.ensures.prefix c.rate-ones_a.ensures.length c.lengths-prefix_b.ensures.prefix
    c.rate-period_b.ensures.length c.rate-ones_a.ensures.ones c.in_ok-index.ensures.some c.lcm.ensures.least in
    (_, (_, _, are, refl), elim c.else-prefix-most.branch [ else-prefix-most-via-then-prefix-most+else-period-most w ↦ omega arith | else-prefix-most-via-else-prefix-most w ↦ omega arith ])
