-- Words walked along by limbs, and a clock on a clock made by limbs.
use Rattle.std.proofs.Common.{ℕ, suc, zero, ◌+◌, ◌-◌, ◌*◌, ◌/◌, ◌%◌, ◌^◌, ◌<◌, ◌≤◌, ◌≡◌, get_or, Bool, false, ◌&&◌, List, [], ◌∷◌, ◌++◌, length, drop, ap, sym, ◌∙◌, inl, inr, arith, length-drop}
use Rattle.std.specs.Prelude.{slice_index}
use Rattle.std.specs.Int.RustNames.{count_ones, bit_or}
use Rattle.std.proofs.Math.Nat.{add-mod_right, mod-eq_of_lt, mod-le, add-mul, mul-le-mul_right, pow-le-pow_right}
use Rattle.std.proofs.lemmas.Bool.{cases_lt, cases_Bool, and_left}
use Rattle.std.proofs.lemmas.List.{drop-drop, get_or-drop, length_push, get_or_append_left, get_or_push}
use Rattle.std.proofs.lemmas.Nat.{shl_below, or_comm, or_shifted, mod_below, pow_pos, pow-add}
use Rattle.std.proofs.lemmas.Nat.Bits.{bit_at_cat_low, bit_at_cat_high, bit_at_above, same_from_bits_below}
use Rattle.lucy_word.specs.Bits.{Bits, bit_at, one_if, ones_to}
use Rattle.lucy_word.specs.Sampling.{bit_on}
use Rattle.lucy_word.specs.Packing.{is_set, deposit_bit, packed_bit, AreNext}
use Rattle.lucy_word.proofs.BitsLaws.{bit_at-prefix, bit_at-period, ones_to-none, ones_to-more}
use Rattle.lucy_word.proofs.IndexLaws.{ones_to-rises}
use Rattle.lucy_word.proofs.LimbLaws.{set_same, set_digit, count_ones-more, count_ones-none, digit_mod}

-- past bits of the prefix
pub bit_at-past_more : (w : Bits) (n i : ℕ) → n ≤ length w.prefix → 0 < i → bit_at (record { prefix = drop n w.prefix; period = w.period }) i ≡ bit_at w (i + n)
bit_at-past_more w n i within h =
    let v : Bits = record { prefix = drop n w.prefix; period = w.period } in
    let l : length v.prefix ≡ length w.prefix - n = length-drop n w.prefix in
    elim (cases_lt (length v.prefix) i) [
      | inl over ↦
          bit_at-period v i over ∙ ap (λ k. get_or w.period (k % length w.period) false) (omega arith)
          ∙ sym (bit_at-period w (i + n) (omega arith))
      | inr under ↦
          bit_at-prefix v i under ∙ get_or-drop n w.prefix (i - 1) false ∙ ap (λ k. get_or w.prefix k false) (omega arith)
          ∙ sym (bit_at-prefix w (i + n) (omega arith))
    ]

-- the first bits of the prefix
pub AreNext-prefix : (w : Bits) (n limb : ℕ) → n ≤ length w.prefix → limb < 2 ^ n → ((i : ℕ) → i < n → is_set limb i ≡ get_or w.prefix i false) → AreNext w n limb
AreNext-prefix w n limb within small are = record {
  within = small;
  bits = λ i h. are i h ∙ ap (λ k. get_or w.prefix k false) (let e : i ≡ i + 1 - 1 = omega arith in e) ∙ sym (bit_at-prefix w (i + 1) (omega arith));
}

pub AreNext-same : (v w : Bits) (n limb : ℕ) → ((i : ℕ) → 0 < i → bit_at v i ≡ bit_at w i) → AreNext v n limb → AreNext w n limb
AreNext-same v w n limb same are = record { within = are.within; bits = λ i h. are.bits i h ∙ same (i + 1) (omega arith) }

-- (high + 1) * 2 ^ n is at most 2 ^ m * 2 ^ n
pub joined_below : (high n m low : ℕ) → high < 2 ^ m → low < 2 ^ n → high * 2 ^ n + low < 2 ^ (m + n)
joined_below high n m low less small =
    let most : (high + 1) * 2 ^ n ≤ 2 ^ m * 2 ^ n = mul-le-mul_right (2 ^ n) (let h : high + 1 ≤ 2 ^ m = omega arith in h) in
    let one : (high + 1) * 2 ^ n ≡ high * 2 ^ n + 1 * 2 ^ n = add-mul high 1 (2 ^ n) in
    omega (arith, most, one, pow-add 2 m n)

-- bits, and those that come after them
pub AreNext-more : (w v : Bits) (n m low high : ℕ) → n < 64 → n + m ≤ 64 → AreNext w n low → ((i : ℕ) → 0 < i → bit_at v i ≡ bit_at w (i + n)) → AreNext v m high →
    AreNext w (n + m) (bit_or low (high * 2 ^ n % 2 ^ 64))
AreNext-more w v n m low high less fits are_low rest are_high =
    let small : high * 2 ^ n < 2 ^ (m + n) = shl_below high m n are_high.within in
    let swap : 2 ^ (m + n) ≡ 2 ^ (n + m) = ap (λ k. 2 ^ k) (let e : m + n ≡ n + m = omega arith in e) in
    let two : 0 < 2 = omega arith in
    let le : m + n ≤ 64 = omega arith in
    let most : 2 ^ (m + n) ≤ 2 ^ 64 = pow-le-pow_right two le in
    let kept : high * 2 ^ n < 2 ^ 64 = omega arith in
    let is : bit_or low (high * 2 ^ n % 2 ^ 64) ≡ high * 2 ^ n + low = ap (bit_or low) (mod-eq_of_lt kept) ∙ or_comm low (high * 2 ^ n) ∙ or_shifted high n low are_low.within in
    record {
      within = omega (arith, is, swap, joined_below high n m low are_high.within are_low.within);
      bits = λ i h.
          ap (λ z. is_set z i) is ∙
          elim (cases_lt i n) [
            | inl before ↦ set_same (high * 2 ^ n + low) i low i (bit_at_cat_low high n low i before) ∙ are_low.bits i before
            | inr past ↦
                set_same (high * 2 ^ n + low) i high (i - n) (bit_at_cat_high high n low i are_low.within past) ∙ are_high.bits (i - n) (omega arith)
                ∙ rest (i - n + 1) (omega arith) ∙ ap (bit_at w) (let e : i - n + 1 + n ≡ i + 1 = omega arith in e)
          ];
    }

-- the ones of a word are counted in its next limb
pub AreNext-ones : (w : Bits) (n limb i : ℕ) → AreNext w n limb → i ≤ n → ones_to w i ≡ count_ones (limb % 2 ^ i)
AreNext-ones w n limb zero are h = ones_to-none w ∙ sym (count_ones-none limb)
AreNext-ones w n limb (suc i) are h =
    let e : suc i ≡ i + 1 = omega arith in
    let digit : one_if (bit_at w (i + 1)) ≡ limb / 2 ^ i % 2 = ap one_if (sym (are.bits i (omega arith))) ∙ set_digit limb i in
    omega (arith, ap (ones_to w) e, ap (λ k. count_ones (limb % 2 ^ k)) e, ones_to-more w i, count_ones-more limb i, AreNext-ones w n limb i are (omega arith), digit)

pub AreNext-total : (w : Bits) (n limb : ℕ) → AreNext w n limb → ones_to w n ≡ count_ones limb
AreNext-total w n limb are = AreNext-ones w n limb n are (omega arith) ∙ ap count_ones (mod-eq_of_lt are.within)

-- a deposit is the next bits of a on b
pub deposit_on : (a b : Bits) (n first next i : ℕ) → AreNext a n first → AreNext b (count_ones first) next → i < n → deposit_bit first next i ≡ bit_on a b (i + 1)
deposit_on a b n first next i are_a are_b h =
    elim (cases_Bool (is_set first i)) [
      | inr none ↦
          and_left (is_set first i) (is_set next (count_ones (first % 2 ^ i))) none
          ∙ sym (and_left (bit_at a (i + 1)) (bit_at b (ones_to a (i + 1))) (sym (are_a.bits i h) ∙ none))
      | inl one ↦
          let m : ℕ = count_ones (first % 2 ^ i) in
          let digit : first / 2 ^ i % 2 ≡ 1 = sym (set_digit first i) ∙ ap one_if one in
          let count : ones_to a (i + 1) ≡ m + 1 = omega (arith, AreNext-ones a n first (i + 1) are_a (omega arith), count_ones-more first i, digit) in
          let within : m < count_ones first = omega (arith, count, ones_to-rises a (i + 1) n (omega arith), AreNext-total a n first are_a) in
          let read : is_set next m ≡ bit_at b (ones_to a (i + 1)) = are_b.bits m within ∙ ap (bit_at b) (sym count) in
          ap (λ x. is_set first i && x) read ∙ ap (λ x. x && bit_at b (ones_to a (i + 1))) (are_a.bits i h)
    ]

pub mod_less : (x n : ℕ) → x < 2 ^ 64 → x % 2 ^ n < 2 ^ 64
mod_less x n fits = omega (arith, mod-le x (2 ^ n))

-- a limb whose bits are 0 from a place on
pub below_from_bits : (x n : ℕ) → x < 2 ^ 64 → ((i : ℕ) → n ≤ i → i < 64 → x / 2 ^ i % 2 ≡ 0) → x < 2 ^ n
below_from_bits x n fits none =
    let cut : x % 2 ^ n < 2 ^ n = mod_below x (2 ^ n) (pow_pos n) in
    let less : x % 2 ^ n < 2 ^ 64 = mod_less x n fits in
    let same : x ≡ x % 2 ^ n = same_from_bits_below 64 x (x % 2 ^ n) fits less (λ i h.
    elim (cases_lt i n) [
      | inl before ↦ sym (digit_mod x n i before)
      | inr past ↦ none i past h ∙ sym (bit_at_above (x % 2 ^ n) n i cut past)
    ]) in
    omega arith

-- a walk that leaves bits behind
pub walk_past : (rest period : List Bool) (at n i : ℕ) → at + n ≤ length rest → 0 < i →
    bit_at (record { prefix = drop (at + n) rest; period = period }) i ≡ bit_at (record { prefix = drop at rest; period = period }) (i + n)
walk_past rest period at n i within h =
    let w : Bits = record { prefix = drop at rest; period = period } in
    let size : n ≤ length (drop at rest) = omega (arith, length-drop at rest) in
    ap (λ l. bit_at (record { prefix = l; period = period }) i) (sym (drop-drop n at rest)) ∙ bit_at-past_more w n i size h

-- one limb more
pub each_more : (before after : List ℕ) (x : ℕ) → after ≡ before ++ x ∷ [] → ((k : ℕ) → k < length before → slice_index before k < 2 ^ 64) → x < 2 ^ 64 →
    (k : ℕ) → k < length after → slice_index after k < 2 ^ 64
each_more before after x is each fits k h =
    let size : length after ≡ length before + 1 = ap length is ∙ length_push before x in
    let read : slice_index after k ≡ slice_index (before ++ x ∷ []) k = ap (λ l. slice_index l k) is in
    elim (cases_lt k (length before)) [
      | inl old ↦ omega (arith, read, get_or_append_left before (x ∷ []) 0 k old, each k old)
      | inr last ↦ omega (arith, read, get_or_push before x 0 k (let e : length before ≡ k = omega arith in e), fits)
    ]

pub packed_more : (f : ℕ → Bool) (before after : List ℕ) (x n r : ℕ) → after ≡ before ++ x ∷ [] → length before ≡ n → r ≤ 64 →
    ((k : ℕ) → k < n * 64 → packed_bit before k ≡ f k) → ((i : ℕ) → i < r → is_set x i ≡ f (n * 64 + i)) → (k : ℕ) → k < n * 64 + r → packed_bit after k ≡ f k
packed_more f before after x n r is len small old new k h =
    ap (λ l. packed_bit l k) is ∙
    elim (cases_lt k (n * 64)) [
      | inl early ↦ ap (λ y. is_set y (k % 64)) (get_or_append_left before (x ∷ []) 0 (k / 64) (omega arith)) ∙ old k early
      | inr late ↦
          let i : ℕ = k - n * 64 in
          let place : k % 64 ≡ i = omega arith in
          ap (λ y. is_set y (k % 64)) (get_or_push before x 0 (k / 64) (omega arith)) ∙ ap (is_set x) place ∙ new i (omega arith) ∙ ap f (let e : n * 64 + i ≡ k = omega arith in e)
    ]

-- a walk along the period, by the place where it began
walk_turn : (period : List Bool) (at j : ℕ) → at ≤ length period → 0 < length period → 0 < j →
    bit_at (record { prefix = drop at period; period = period }) j ≡ get_or period ((at + j - 1) % length period) false
walk_turn period at j within some first =
    let w : Bits = record { prefix = drop at period; period = period } in
    let L : ℕ = length period in
    let size : length w.prefix ≡ L - at = length-drop at period in
    elim (cases_lt (length w.prefix) j) [
      | inl over ↦
          let e : at + j - 1 ≡ j - length w.prefix - 1 + L = omega arith in
          bit_at-period w j over ∙ ap (λ n. get_or period n false) (sym (add-mod_right (j - length w.prefix - 1) L) ∙ ap (λ n. n % L) (sym e))
      | inr under ↦
          let e : at + (j - 1) ≡ at + j - 1 = omega arith in
          let small : (at + j - 1) % L ≡ at + j - 1 = mod-eq_of_lt (omega arith) in
          bit_at-prefix w j under ∙ get_or-drop at period (j - 1) false ∙ ap (λ n. get_or period n false) (e ∙ sym small)
    ]

pub walk_again : (rest period : List Bool) (at i : ℕ) → rest ≡ period → at ≤ length rest → 0 < length period → 0 < i →
    bit_at (record { prefix = drop at rest; period = period }) (i + length period) ≡ bit_at (record { prefix = drop at rest; period = period }) i
walk_again rest period at i same within some first =
    let L : ℕ = length period in
    let le : at ≤ L = omega (arith, ap length same) in
    let e : at + (i + L) - 1 ≡ at + i - 1 + L = omega arith in
    let turn : bit_at (record { prefix = drop at period; period = period }) (i + L) ≡ bit_at (record { prefix = drop at period; period = period }) i =
    walk_turn period at (i + L) le some (omega arith) ∙ ap (λ n. get_or period (n % L) false) e ∙ ap (λ n. get_or period n false) (add-mod_right (at + i - 1) L) ∙ sym (walk_turn period at i le some first) in
    ap (λ l. bit_at (record { prefix = drop at l; period = period }) (i + L)) same ∙ turn ∙ ap (λ l. bit_at (record { prefix = drop at l; period = period }) i) (sym same)
