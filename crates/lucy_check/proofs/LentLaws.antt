-- Laws of (1): a word on it, and it on a word, are that word, and no longer.
use Rattle.std.proofs.Common.{ℕ, ◌*◌, ◌/◌, ◌<◌, ◌≡◌, true, false, Bool, List, [], ◌∷◌, length, ap, sym, refl, ◌∙◌, subst, arith}
use Rattle.std.proofs.Math.Nat.{dvd_refl, one-dvd, le_of_dvd, div_self, div-one}
use Rattle.std.proofs.lemmas.List.{nil_from_length}
use Rattle.lucy_word.specs.Bits.{Bits, bit_at, ones_in}
use Rattle.lucy_word.specs.Always.{always}
use Rattle.lucy_word.specs.Multiple.{IsLcm}
use Rattle.lucy_word.specs.Stored.{IsStored}
use Rattle.lucy_word.specs.Sampling.{bit_on, IsOnTooLong}
use Rattle.lucy_word.proofs.IndexLaws.{IsIndex-one, IsIndex-none}
use Rattle.lucy_word.proofs.Multiples.{lcm_one}
use Rattle.lucy_word.proofs.OnLaws.{on_always, always_on, always_count, same_self}
use Rattle.lucy_need.specs.declared.need.Term.{Term}
use Rattle.lucy_need.specs.Meeting.{Assignment}
use Rattle.lucy_check.specs.Passing.{IsTermPassing}

one_bit : (bits : List Bool) → length bits ≡ 1 → 0 < ones_in bits → bits ≡ true ∷ []
one_bit [] e h = absurd (omega (arith, e))
one_bit (true ∷ []) e h = refl
one_bit (false ∷ []) e h = absurd (omega (arith, h))
one_bit (bit ∷ next ∷ bits) e h = absurd (omega (arith, e))

-- a word without a prefix, whose period is one bit
pub always_from : (w : Bits) → length w.prefix ≡ 0 → length w.period ≡ 1 → 0 < ones_in w.period → w ≡ always
always_from w prefix period some =
    let P : List Bool → Bits = λ p. record { prefix = p; period = w.period } in
    let Q : List Bool → Bits = λ p. record { prefix = []; period = p } in
    ap P (nil_from_length w.prefix prefix) ∙ ap Q (one_bit w.period period some)

lcm_with_one : (n : ℕ) → 0 < n → IsLcm n 1 n
lcm_with_one n some = record { of_left = dvd_refl n; of_right = one-dvd n; positive = some; least = λ m pos left right. le_of_dvd pos left }

lcm_of_one : (n : ℕ) → 0 < n → IsLcm 1 n n
lcm_of_one n some = record { of_left = one-dvd n; of_right = dvd_refl n; positive = some; least = λ m pos left right. le_of_dvd pos right }

-- a word on (1) is computed with the bits of the word
pub on_always_short : (a : Bits) → IsStored a → IsOnTooLong a always → ⊥
on_always_short a is h =
    let lengths = h.1.2 in
    let R : ℕ = ones_in a.period in
    let place : lengths.place ≡ 0 = IsIndex-one a 0 lengths.place 0 lengths.last_read (IsIndex-none a) in
    let ones : lengths.ones ≡ R = lcm_one R 1 lengths.ones R lengths.common (lcm_with_one R is.word.has_one) in
    let turn : lengths.ones / R ≡ 1 = ap (λ n. n / R) ones ∙ div_self is.word.has_one in
    let period : h.1.1 ≡ 1 * length a.period = lengths.of_period ∙ ap (λ n. n * length a.period) turn in
    omega (arith, lengths.of_prefix, place, period, h.1.3, h.2, is.short)

-- and so is (1) on a word
pub always_on_short : (b : Bits) → IsStored b → IsOnTooLong always b → ⊥
always_on_short b is h =
    let lengths = h.1.2 in
    let n : ℕ = length b.period in
    let place : lengths.place ≡ length b.prefix = sym (always_count lengths.place) ∙ lengths.last_read.there in
    let ones : lengths.ones ≡ n = lcm_one 1 n lengths.ones n lengths.common (lcm_of_one n is.nonempty) in
    let period : h.1.1 ≡ n / 1 * 1 = lengths.of_period ∙ ap (λ m. m / 1 * 1) ones in
    omega (arith, lengths.of_prefix, place, period, div-one n, h.1.3, h.2, is.short)

-- the word of a clock passes as that of a term on (1)
pub own_passing : (w : Assignment) (t : Term) (a : Bits) → a ≡ w t.clock → t.word ≡ always → IsStored a → IsTermPassing w t a
own_passing w t a e base is = record {
  is = record { is_word = is.word; on = λ i h. sym (ap (λ b. bit_on (w t.clock) b i) base ∙ on_always (w t.clock) i h ∙ ap (λ b. bit_at b i) (sym e)) };
  shortest = is.shortest;
  within = λ long. on_always_short a is (subst (λ b. IsOnTooLong b always) (sym e) (subst (IsOnTooLong (w t.clock)) base long));
}

-- and the word of a term as that of the term, where its clock is (1)
pub word_passing : (w : Assignment) (t : Term) (a : Bits) → a ≡ w t.clock → a ≡ always → IsStored t.word → IsTermPassing w t t.word
word_passing w t a e base is = record {
  is = record { is_word = is.word; on = λ i h. sym (ap (λ b. bit_on b t.word i) (sym e ∙ base) ∙ always_on always t.word i (same_self always) h) };
  shortest = is.shortest;
  within = λ long. always_on_short t.word is (subst (λ b. IsOnTooLong b t.word) (sym e ∙ base) long);
}
