-- With how many bits a clock on a word is computed.
use Rattle.std.proofs.Common.{◌≡◌, ◌+◌, ◌*◌, ◌/◌, ◌<◌, ℕ, max, length, refl, subst, arith}
use Rattle.lucy_word.specs.Bits.{Bits, ones_in, most_bits}
use Rattle.lucy_word.specs.Index.{IsIndex}
use Rattle.lucy_word.specs.Multiple.{IsLcm}
use Rattle.lucy_word.specs.Sampling.{AreComputedLengths, IsOnTooLong}
use Rattle.lucy_word.proofs.SamplingLaws.{IsComputedLength-one}

-- the lengths, from what the calls answered
pub lengths_of : (a b : Bits) (prefix_a period_a prefix_b period_b ones place common : ℕ) → prefix_a ≡ length a.prefix → period_a ≡ length a.period →
    prefix_b ≡ length b.prefix → period_b ≡ length b.period → ones ≡ ones_in a.period → IsIndex a prefix_b place → IsLcm ones period_b common →
    AreComputedLengths a b (max prefix_a place) (common / ones * period_a)
lengths_of a b prefix_a period_a prefix_b period_b ones place common e f g h i is_place is_common =
    let P : ℕ → Type 0 = λ n. IsIndex a n place in
    let Q : ℕ → Type 0 = λ n. IsLcm n period_b common in
    let R : ℕ → Type 0 = λ n. IsLcm (ones_in a.period) n common in
    record { place = place; last_read = subst P g is_place; of_prefix = omega arith; ones = common; common = subst R h (subst Q i is_common); of_period = cc }

-- they are too many exactly where their sum is more than is allowed
pub too_long : (a b : Bits) (prefix period : ℕ) → AreComputedLengths a b prefix period → most_bits < prefix + period → IsOnTooLong a b
too_long a b prefix period are more = (prefix + period, (prefix, period, are, refl), more)

pub not_long : (a b : Bits) (prefix period : ℕ) → AreComputedLengths a b prefix period → IsOnTooLong a b → most_bits < prefix + period
not_long a b prefix period are long =
    let e = IsComputedLength-one a b long.0 (prefix + period) long.1 (prefix, period, are, refl) in
    let more = long.2 in
    omega arith
