-- Laws of a clock on a clock: its counts, its places, and where it repeats.
use Rattle.std.proofs.Common.{ℕ, suc, zero, ◌+◌, ◌-◌, ◌*◌, ◌/◌, ◌%◌, ◌<◌, ◌≤◌, ◌≡◌, false, ◌&&◌, length, get_or, ap, sym, ◌∙◌, inl, inr, arith, add-one}
use Rattle.std.proofs.Math.Nat.{div-mul_cancel, div-add-mod, mod-lt, mul-le-mul_left}
use Rattle.std.proofs.lemmas.Nat.{mul-le}
use Rattle.std.proofs.lemmas.Bool.{cases_lt, cases_Bool, and_left}
use Rattle.lucy_word.specs.Bits.{Bits, bit_at, one_if, ones_to, ones_in, IsWord}
use Rattle.lucy_word.specs.Index.{IsIndex}
use Rattle.lucy_word.specs.Sampling.{bit_on, IsOn, AreComputedLengths, IsComputedLength}
use Rattle.lucy_word.proofs.Multiples.{lcm_one}
use Rattle.lucy_word.proofs.BitsLaws.{ones_to-none, ones_to-more, bit_at-prefix, bit_at-period, bit_at-turn, period_some}
use Rattle.lucy_word.proofs.IndexLaws.{ones_to-rises, ones_to-one, ones_to-periods, IsIndex-some, IsIndex-one, IsIndex-from, IsIndex-before, IsIndex-there}

-- the counts of `a on b`
pub ones_to-on : (a b w : Bits) (i : ℕ) → IsOn a b w → ones_to w i ≡ ones_to b (ones_to a i)
ones_to-on a b w zero is = ones_to-none w ∙ sym (ones_to-none b) ∙ ap (ones_to b) (sym (ones_to-none a))
ones_to-on a b w (suc i) is =
    let before : ones_to w i ≡ ones_to b (ones_to a i) = ones_to-on a b w i is in
    let more_w : ones_to w (suc i) ≡ ones_to w i + one_if (bit_at w (suc i)) = rw (← add-one) (ones_to-more w i) in
    let more_a : ones_to a (suc i) ≡ ones_to a i + one_if (bit_at a (suc i)) = rw (← add-one) (ones_to-more a i) in
    let bit : bit_at w (suc i) ≡ (bit_at a (suc i) && bit_at b (ones_to a (suc i))) = is (suc i) (omega arith) in
    elim (cases_Bool (bit_at a (suc i))) [
      | inl one ↦
          let e : ones_to a (suc i) ≡ ones_to a i + 1 = omega (arith, ap one_if one) in
          let f : bit_at w (suc i) ≡ bit_at b (ones_to a i + 1) =
          bit ∙ ap (λ x. x && bit_at b (ones_to a (suc i))) one ∙ ap (bit_at b) e in
          omega (arith, ones_to-more b (ones_to a i), ap one_if f, ap (ones_to b) e)
      | inr none ↦
          let e : ones_to a (suc i) ≡ ones_to a i = omega (arith, ap one_if none) in
          let f : bit_at w (suc i) ≡ false = bit ∙ and_left (bit_at a (suc i)) (bit_at b (ones_to a (suc i))) none in
          omega (arith, ap one_if f, ap (ones_to b) e)
    ]

-- what is `a on b` in other bits of prefix and period is `a on b`
pub IsOn-same : (a b v w : Bits) → ((i : ℕ) → 0 < i → bit_at v i ≡ bit_at w i) → IsOn a b v → IsOn a b w
IsOn-same a b v w same is i h = sym (same i h) ∙ is i h

-- the places of `a on b`
pub IsIndex-on : (a b w : Bits) (j k i : ℕ) → IsOn a b w → IsIndex b j k → IsIndex a k i → IsIndex w j i
IsIndex-on a b w j k i is of_b of_a =
    IsIndex-from w j i (ones_to-on a b w i is ∙ ap (ones_to b) of_a.there ∙ of_b.there)
    (λ l h. omega (arith, ones_to-on a b w l is, IsIndex-before b j k (ones_to a l) of_b (IsIndex-before a k i l of_a h)))

-- where a and b are words, so is `a on b`
pub IsWord-on : (a b w : Bits) → IsOn a b w → IsWord a → IsWord b → 0 < length w.period → IsWord w
IsWord-on a b w is of_a of_b some =
    elim (cases_lt 0 (ones_in w.period)) [
      | inl has_one ↦ record { has_one = has_one }
      | inr none ↦
          let p : ℕ = length w.prefix in
          let k = IsIndex-some b (ones_to w p + 1) of_b in
          let i = IsIndex-some a k.0 of_a in
          let at = IsIndex-on a b w (ones_to w p + 1) k.0 i.0 is k.1 i.1 in
          let far : i.0 * 1 ≤ i.0 * length w.period = mul-le-mul_left i.0 some in
          let none_more : i.0 * ones_in w.period ≡ i.0 * 0 = ap (λ n. i.0 * n) (omega arith) in
          absurd (omega (arith, at.there, ones_to-rises w i.0 (p + i.0 * length w.period) (omega arith), ones_to-periods w p i.0 (omega arith)))
    ]

-- the bits past the prefix come again after q periods
pub bit_at-periods : (w : Bits) (i q : ℕ) → length w.prefix < i → bit_at w (i + q * length w.period) ≡ bit_at w i
bit_at-periods w i zero h = ap (bit_at w) (let e : i + 0 * length w.period ≡ i = omega arith in e)
bit_at-periods w i (suc q) h =
    ap (bit_at w) (let e : i + suc q * length w.period ≡ i + q * length w.period + length w.period = omega arith in e)
    ∙ bit_at-turn w (i + q * length w.period) (omega arith) ∙ bit_at-periods w i q h

-- past the computed prefix the bits of `a on b` come again after the computed period
on_turn : (a b : Bits) (prefix period i : ℕ) → AreComputedLengths a b prefix period → prefix < i → bit_on a b (i + period) ≡ bit_on a b i
on_turn a b prefix period i lengths h =
    let R : ℕ = ones_in a.period in
    let m : ℕ = lengths.ones in
    let t : ℕ = m / R in
    let s : ℕ = m / length b.period in
    let by_a : t * R ≡ m = div-mul_cancel R lengths.common.of_left in
    let by_b : s * length b.period ≡ m = div-mul_cancel (length b.period) lengths.common.of_right in
    let far : i + period ≡ i + t * length a.period = omega (arith, lengths.of_period) in
    let past : length a.prefix < i = omega (arith, lengths.of_prefix) in
    let kept : bit_at a (i + period) ≡ bit_at a i = ap (bit_at a) far ∙ bit_at-periods a i t past in
    elim (cases_Bool (bit_at a i)) [
      | inr none ↦
          and_left (bit_at a (i + period)) (bit_at b (ones_to a (i + period))) (kept ∙ none)
          ∙ sym (and_left (bit_at a i) (bit_at b (ones_to a i)) none)
      | inl one ↦
          let here : ones_to a i ≡ ones_to a (i - 1) + 1 = ones_to-one a i (omega arith) one in
          let read : length b.prefix ≤ ones_to a (i - 1) = IsIndex-there a (length b.prefix) lengths.place (i - 1) lengths.last_read (omega (arith, lengths.of_prefix)) in
          let count : ones_to a (i + period) ≡ ones_to a i + s * length b.period = omega (arith, ap (ones_to a) far, ones_to-periods a i t (omega arith)) in
          let again : bit_at b (ones_to a (i + period)) ≡ bit_at b (ones_to a i) = ap (bit_at b) count ∙ bit_at-periods b (ones_to a i) s (omega arith) in
          ap (λ x. x && bit_at b (ones_to a (i + period))) kept ∙ ap (λ x. bit_at a i && x) again
    ]

on_turns : (a b : Bits) (prefix period i q : ℕ) → AreComputedLengths a b prefix period → prefix < i → bit_on a b (i + q * period) ≡ bit_on a b i
on_turns a b prefix period i zero lengths h = ap (bit_on a b) (let e : i + 0 * period ≡ i = omega arith in e)
on_turns a b prefix period i (suc q) lengths h =
    ap (bit_on a b) (let e : i + suc q * period ≡ i + q * period + period = omega arith in e)
    ∙ on_turn a b prefix period (i + q * period) lengths (omega arith) ∙ on_turns a b prefix period i q lengths h

-- the first bits of `a on b`, as many as its computed lengths, give all of it
pub IsOn-from : (a b w : Bits) → AreComputedLengths a b (length w.prefix) (length w.period) → 0 < length w.period →
    ((k : ℕ) → k < length w.prefix → get_or w.prefix k false ≡ bit_on a b (k + 1)) →
    ((k : ℕ) → k < length w.period → get_or w.period k false ≡ bit_on a b (length w.prefix + (k + 1))) → IsOn a b w
IsOn-from a b w lengths some of_prefix of_period i h =
    let p : ℕ = length w.prefix in
    let N : ℕ = length w.period in
    elim (cases_lt p i) [
      | inr within ↦ bit_at-prefix w i within ∙ of_prefix (i - 1) (omega arith) ∙ ap (bit_on a b) (let e : i - 1 + 1 ≡ i = omega arith in e)
      | inl past ↦
          let r : ℕ = (i - p - 1) % N in
          let q : ℕ = (i - p - 1) / N in
          let less : r < N = mod-lt (i - p - 1) some in
          let e : p + (r + 1) + q * N ≡ i = omega (arith, div-add-mod (i - p - 1) N) in
          bit_at-period w i past ∙ of_period r less ∙ sym (on_turns a b p N (p + (r + 1)) q lengths (omega arith)) ∙ ap (bit_on a b) e
    ]

-- the computed period is not empty
pub AreComputedLengths-some : (a b : Bits) (prefix period : ℕ) → AreComputedLengths a b prefix period → IsWord a → 0 < period
AreComputedLengths-some a b prefix period is word =
    let R : ℕ = ones_in a.period in
    let t : ℕ = is.ones / R in
    let whole : t * R ≡ is.ones = div-mul_cancel R is.common.of_left in
    let some_ones : 0 < is.ones = is.common.positive in
    elim (cases_lt 0 t) [
      | inl some ↦ (let more : 1 * 1 ≤ t * length a.period = mul-le 1 1 t (length a.period) some (period_some a word) in omega (arith, is.of_period))
      | inr none ↦ absurd (let z : t * R ≡ 0 * R = ap (λ n. n * R) (let e : t ≡ 0 = omega arith in e) in omega arith)
    ]

-- the computed length is one number
pub IsComputedLength-one : (a b : Bits) (m n : ℕ) → IsComputedLength a b m → IsComputedLength a b n → m ≡ n
IsComputedLength-one a b m n h k =
    let place = IsIndex-one a (length b.prefix) h.2.place k.2.place h.2.last_read k.2.last_read in
    let ones = lcm_one (ones_in a.period) (length b.period) h.2.ones k.2.ones h.2.common k.2.common in
    let period : h.1 ≡ k.1 = h.2.of_period ∙ ap (λ x. x / ones_in a.period * length a.period) ones ∙ sym k.2.of_period in
    omega (arith, h.3, k.3, h.2.of_prefix, k.2.of_prefix)
