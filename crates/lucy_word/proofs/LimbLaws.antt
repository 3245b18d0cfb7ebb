-- Laws of bits in limbs: the one relation between the list and the limbs is `get_or-unpacked`.
use Rattle.std.proofs.Common.{ℕ, suc, zero, ◌+◌, ◌-◌, ◌*◌, ◌/◌, ◌%◌, ◌^◌, ◌<◌, ◌≤◌, ◌≡◌, ◌==◌, get_or, ◌&&◌, not, Bool, true, false, List, length, take, drop, ap, sym, refl, ◌∙◌, inl, inr, arith}
use Rattle.std.specs.Prelude.{slice_index}
use Rattle.std.specs.Int.RustNames.{count_ones, bit_or}
use Rattle.std.specs.Int.Bits.{bit_and}
use Rattle.std.proofs.lemmas.Bool.{cases_Bool, cases_lt, eq-eqb}
use Rattle.std.proofs.lemmas.Bool.Decides.{eqb_tells}
use Rattle.std.proofs.lemmas.Nat.{mod-pow-add, ones_cat, mod_below, pow_pos, pow-add, shr-shr, shr_split, and_mask, or_comm, or_shifted, shl_below, shr_below, mod_low}
use Rattle.std.proofs.Math.Nat.{div-add-mod, add-mul, mul_assoc, mod-eq_of_lt, pow-le-pow_right}
use Rattle.std.proofs.lemmas.List.{length-take, length-drop, get_or-take, get_or-drop, ext_get_or, take_all}
use Rattle.std.proofs.lemmas.List.FromFn.{length-map-range_with_len, get_or-map-range_with_len, sum_by-map-range_with_len_more}
use Rattle.std.proofs.lemmas.Nat.Bits.{bit_at-lt, same_from_bits_below, bit_at_above, bit_at_cat_low, bit_at_cat_high, bit_at_not}
use Rattle.std.specs.Int.{w64, bit_not}
use Rattle.lucy_word.proofs.CountedLaws.{ones_in-parts, ones_in-later}
use Rattle.lucy_word.specs.Counting.{CountsBefore}
use Rattle.lucy_word.specs.Bits.{ones_in, one_if}
use Rattle.lucy_word.specs.Packing.{deposit_bit, is_set, limb_bits, packed_bit, unpacked, ArePacked}

pub length-limb_bits : (n limb : ℕ) → length (limb_bits n limb) ≡ n
unfolding limb_bits
length-limb_bits n limb = length-map-range_with_len (is_set limb) 0 n

pub get_or-limb_bits : (n limb i : ℕ) → i < n → get_or (limb_bits n limb) i false ≡ is_set limb i
unfolding limb_bits
get_or-limb_bits n limb i h = get_or-map-range_with_len (is_set limb) 0 n i i false h (omega arith)

pub length-unpacked : (len : ℕ) (limbs : List ℕ) → length (unpacked len limbs) ≡ len
unfolding unpacked
length-unpacked len limbs = length-map-range_with_len (packed_bit limbs) 0 len

-- the relation of bits and limbs
pub get_or-unpacked : (len : ℕ) (limbs : List ℕ) (i : ℕ) → i < len → get_or (unpacked len limbs) i false ≡ packed_bit limbs i
unfolding unpacked
get_or-unpacked len limbs i h = get_or-map-range_with_len (packed_bit limbs) 0 len i i false h (omega arith)

-- a part of the bits that lies in one limb
pub part-unpacked : (len : ℕ) (limbs : List ℕ) (s r : ℕ) → r ≤ 64 → s * 64 + r ≤ len → take r (drop (s * 64) (unpacked len limbs)) ≡ limb_bits r (slice_index limbs s)
part-unpacked len limbs s r small within =
    let u : List Bool = unpacked len limbs in
    let size : length (take r (drop (s * 64) u)) ≡ r = omega (arith, length-take r (drop (s * 64) u), length-drop (s * 64) u, length-unpacked len limbs) in
    ext_get_or false _ _ (omega (arith, size, length-limb_bits r (slice_index limbs s))) (λ i h.
    let here : i < r = omega (arith, size) in
    let q : (s * 64 + i) / 64 ≡ s = omega arith in
    let m : (s * 64 + i) % 64 ≡ i = omega arith in
    get_or-take r (drop (s * 64) u) i false here ∙ get_or-drop (s * 64) u i false ∙ get_or-unpacked len limbs (s * 64 + i) (omega arith)
    ∙ ap (λ k. is_set (slice_index limbs k) ((s * 64 + i) % 64)) q ∙ ap (is_set (slice_index limbs s)) m
    ∙ sym (get_or-limb_bits r (slice_index limbs s) i here))

-- a bit as a number
pub set_digit : (limb i : ℕ) → one_if (is_set limb i) ≡ limb / 2 ^ i % 2
set_digit limb i =
    elim (eqb_tells (limb / 2 ^ i % 2) 1) [
      | inl one ↦ ap one_if one.0 ∙ sym one.1
      | inr other ↦ (let less : limb / 2 ^ i % 2 < 2 = bit_at-lt limb i in ap one_if other.0 ∙ omega (arith, other.1))
    ]

-- and back
pub set_true : (limb i : ℕ) → limb / 2 ^ i % 2 ≡ 1 → is_set limb i ≡ true
set_true limb i h = eq-eqb (limb / 2 ^ i % 2) 1 h

pub set_false : (limb i : ℕ) → limb / 2 ^ i % 2 ≡ 0 → is_set limb i ≡ false
set_false limb i h = ap (λ b. b == 1) h

-- the same digit
pub set_same : (a i b j : ℕ) → a / 2 ^ i % 2 ≡ b / 2 ^ j % 2 → is_set a i ≡ is_set b j
set_same a i b j h = ap (λ d. d == 1) h

ones_digit : (d : ℕ) → d < 2 → count_ones d ≡ d
unfolding count_ones
ones_digit zero h = refl
ones_digit (suc zero) h = refl
ones_digit (suc (suc d)) h = absurd (omega arith)

-- one place more
pub count_ones-more : (limb n : ℕ) → count_ones (limb % 2 ^ (n + 1)) ≡ count_ones (limb % 2 ^ n) + limb / 2 ^ n % 2
count_ones-more limb n =
    let d : ℕ = limb / 2 ^ n % 2 in
    let turn : limb % 2 ^ (n + 1) ≡ d * 2 ^ n + limb % 2 ^ n = ap (λ k. limb % 2 ^ k) (let e : n + 1 ≡ 1 + n = omega arith in e) ∙ mod-pow-add limb 1 n in
    let cat : count_ones (d * 2 ^ n + limb % 2 ^ n) ≡ count_ones d + count_ones (limb % 2 ^ n) = ones_cat n d (limb % 2 ^ n) (mod_below limb (2 ^ n) (pow_pos n)) in
    omega (arith, ap count_ones turn, cat, ones_digit d (bit_at-lt limb n))

pub count_ones-none : (limb : ℕ) → count_ones (limb % 2 ^ 0) ≡ 0
unfolding count_ones
count_ones-none limb = ap count_ones (let e : limb % 1 ≡ 0 = omega arith in e)

-- of a whole limb
pub count_ones-whole : (limb : ℕ) → limb < 2 ^ 64 → count_ones limb ≡ count_ones (limb % 2 ^ 64)
count_ones-whole limb h = ap count_ones (sym (mod-eq_of_lt h))

-- popcount is the number of true bits
pub ones_in-limb_bits : (n limb : ℕ) → ones_in (limb_bits n limb) ≡ count_ones (limb % 2 ^ n)
unfolding limb_bits
ones_in-limb_bits zero limb = sym (count_ones-none limb)
ones_in-limb_bits (suc n) limb =
    let more : ones_in (limb_bits (n + 1) limb) ≡ ones_in (limb_bits n limb) + one_if (is_set limb n) = sum_by-map-range_with_len_more one_if (is_set limb) 0 n n (omega arith) in
    let same : suc n ≡ n + 1 = omega arith in
    ap (λ k. ones_in (limb_bits k limb)) same ∙ more
    ∙ ap (λ k. k + one_if (is_set limb n)) (ones_in-limb_bits n limb) ∙ ap (λ k. count_ones (limb % 2 ^ n) + k) (set_digit limb n)
    ∙ sym (count_ones-more limb n) ∙ ap (λ k. count_ones (limb % 2 ^ k)) (sym same)

-- the ones of a front: those before a limb and those in it
pub ones_in-front : (len : ℕ) (limbs : List ℕ) (s r : ℕ) → r ≤ 64 → s * 64 + r ≤ len →
    ones_in (take (s * 64 + r) (unpacked len limbs)) ≡ ones_in (take (s * 64) (unpacked len limbs)) + count_ones (slice_index limbs s % 2 ^ r)
ones_in-front len limbs s r small within =
    ones_in-parts (unpacked len limbs) (s * 64) r
    ∙ ap (λ k. ones_in (take (s * 64) (unpacked len limbs)) + k) (ap ones_in (part-unpacked len limbs s r small within) ∙ ones_in-limb_bits r (slice_index limbs s))

-- where the low bits of what is left are none, they count nothing
pub count_ones-gap : (limb at n : ℕ) → ((i : ℕ) → i < n → limb / 2 ^ at / 2 ^ i % 2 ≡ 0) → count_ones (limb % 2 ^ (at + n)) ≡ count_ones (limb % 2 ^ at)
count_ones-gap limb at zero none = ap (λ k. count_ones (limb % 2 ^ k)) (let e : at + 0 ≡ at = omega arith in e)
count_ones-gap limb at (suc n) none =
    let place : at + suc n ≡ at + n + 1 = omega arith in
    let digit : limb / 2 ^ (at + n) % 2 ≡ 0 = ap (λ k. k % 2) (sym (shr-shr limb at n)) ∙ none n (omega arith) in
    ap (λ k. count_ones (limb % 2 ^ k)) place
    ∙ omega (arith, count_ones-more limb (at + n), count_ones-gap limb at n (λ i h. none i (omega arith)), digit)

div_none : (a k : ℕ) → 0 < k → a / k ≡ 0 → a < k
div_none a k some none = omega (arith, div-add-mod a k, mod_below a k some, ap (λ x. k * x) none)

pub low_grows : (kept at skip : ℕ) → kept < 2 ^ at → kept < 2 ^ (at + skip)
low_grows kept at skip low =
    let two : 0 < 2 = omega arith in
    let le : at ≤ at + skip = omega arith in
    let more : 2 ^ at ≤ 2 ^ (at + skip) = pow-le-pow_right two le in
    omega arith

cat_below : (d p kept : ℕ) → d < 2 → kept < 2 ^ p → d * 2 ^ p + kept < 2 ^ (p + 1)
cat_below zero p kept small low = omega (arith, low_grows kept p 1 low)
cat_below (suc zero) p kept small low = (let twice : 2 ^ (p + 1) ≡ 2 ^ p * 2 = pow-add 2 p 1 in omega arith)
cat_below (suc (suc d)) p kept small low = absurd (omega arith)

top_digit : (d p : ℕ) → d < 2 → d / 2 ^ (p - p) % 2 ≡ d
top_digit d p small =
    let none : p - p ≡ 0 = omega arith in
    let same : d / 2 ^ 0 % 2 ≡ d = omega arith in
    ap (λ k. d / 2 ^ k % 2) none ∙ same

none_past : (limbs : List ℕ) (len k i : ℕ) → ArePacked len limbs → len / 64 ≡ k → len % 64 ≤ i → slice_index limbs k / 2 ^ i % 2 ≡ 0
none_past limbs len k i are last past =
    ap (λ j. slice_index limbs j / 2 ^ i % 2) (sym last) ∙ bit_at_above (slice_index limbs (len / 64)) (len % 64) i are.rest past

-- what a deposit has made once the first limb is read up to a place
pub record Deposited (first next at rest bits kept : ℕ) : Type 0 where
  pub within : at ≤ 64
  pub left : rest ≡ first / 2 ^ at
  pub read : bits ≡ next / 2 ^ count_ones (first % 2 ^ at)
  pub below : kept < 2 ^ at
  pub made : (i : ℕ) → i < at → is_set kept i ≡ deposit_bit first next i

-- once nothing is left, all is made
pub Deposited-all : (first next at bits kept : ℕ) → Deposited first next at 0 bits kept → (i : ℕ) → is_set kept i ≡ deposit_bit first next i
Deposited-all first next at bits kept done i =
    elim (cases_lt i at) [
      | inl before ↦ done.made i before
      | inr past ↦
          let small : first < 2 ^ at = div_none first (2 ^ at) (pow_pos at) (sym done.left) in
          set_false kept i (bit_at_above kept at i done.below past)
          ∙ sym (ap (λ b. b && is_set next (count_ones (first % 2 ^ i))) (set_false first i (bit_at_above first at i small past)))
    ]

-- one step
pub Deposited-more : (first next at rest bits kept skip : ℕ) → first < 2 ^ 64 → Deposited first next at rest bits kept → rest / 2 ^ skip % 2 ≡ 1 → ((i : ℕ) → i < skip → rest / 2 ^ i % 2 ≡ 0) →
    (at + skip < 64) × Deposited first next (at + skip + 1) (rest / 2 ^ skip / 2) (bits / 2) (bits % 2 * 2 ^ (at + skip) + kept)
Deposited-more first next at rest bits kept skip fits done one none =
    let p : ℕ = at + skip in
    let here : first / 2 ^ p ≡ rest / 2 ^ skip = sym (shr-shr first at skip) ∙ ap (λ x. x / 2 ^ skip) (sym done.left) in
    let one_here : first / 2 ^ p % 2 ≡ 1 = ap (λ x. x % 2) here ∙ one in
    let within : p < 64 = elim (cases_lt p 64) [ inl less ↦ less | inr past ↦ absurd (omega (arith, bit_at_above first 64 p fits past, one_here)) ] in
    let gap : count_ones (first % 2 ^ p) ≡ count_ones (first % 2 ^ at) = count_ones-gap first at skip (λ i h. ap (λ x. x / 2 ^ i % 2) (sym done.left) ∙ none i h) in
    let n : ℕ = count_ones (first % 2 ^ p) in
    let bits_is : bits ≡ next / 2 ^ n = done.read ∙ ap (λ k. next / 2 ^ k) (sym gap) in
    let low : kept < 2 ^ p = low_grows kept at skip done.below in
    let d : ℕ = bits % 2 in
    let small : d < 2 = omega arith in
    let count : count_ones (first % 2 ^ (p + 1)) ≡ n + 1 = omega (arith, count_ones-more first p, one_here) in (
      within,
      record {
        within = omega arith;
        left = ap (λ x. x / 2) (sym here) ∙ shr-shr first p 1;
        read = ap (λ x. x / 2) bits_is ∙ shr-shr next n 1 ∙ ap (λ k. next / 2 ^ k) (sym count);
        below = cat_below d p kept small low;
        made = λ i h.
            elim (cases_lt i p) [
              | inl less ↦
                  let old : is_set (d * 2 ^ p + kept) i ≡ is_set kept i = set_same (d * 2 ^ p + kept) i kept i (bit_at_cat_low d p kept i less) in
                  elim (cases_lt i at) [
                    | inl before ↦ old ∙ done.made i before
                    | inr past ↦
                        let away : at + (i - at) ≡ i = omega arith in
                        let digit : first / 2 ^ i % 2 ≡ 0 =
                        ap (λ k. first / 2 ^ k % 2) (sym away) ∙ ap (λ k. k % 2) (sym (shr-shr first at (i - at))) ∙ ap (λ x. x / 2 ^ (i - at) % 2) (sym done.left) ∙ none (i - at) (omega arith) in
                        old ∙ set_false kept i (bit_at_above kept at i done.below past)
                        ∙ sym (ap (λ b. b && is_set next (count_ones (first % 2 ^ i))) (set_false first i digit))
                  ]
              | inr past ↦
                  let same : i ≡ p = omega arith in
                  let top : (d * 2 ^ p + kept) / 2 ^ p % 2 ≡ next / 2 ^ n % 2 =
                  bit_at_cat_high d p kept p low (omega arith) ∙ top_digit d p small ∙ ap (λ x. x % 2) bits_is in
                  let made_here : is_set (d * 2 ^ p + kept) p ≡ deposit_bit first next p =
                  set_same (d * 2 ^ p + kept) p next n top ∙ sym (ap (λ b. b && is_set next n) (set_true first p one_here)) in
                  ap (is_set (d * 2 ^ p + kept)) same ∙ made_here ∙ ap (deposit_bit first next) (sym same)
            ];
      },
    )

-- what a step writes: a bit above those that are kept
pub merged : (bits kept p : ℕ) → p < 64 → kept < 2 ^ p → bit_or kept (bit_and bits 1 * 2 ^ p % 2 ^ 64) ≡ bits % 2 * 2 ^ p + kept
merged bits kept p within low =
    let d : ℕ = bits % 2 in
    let low_bit : bit_and bits 1 ≡ d = and_mask bits 1 in
    let small : d < 2 = omega arith in
    let two : 0 < 2 = omega arith in
    let le : p + 1 ≤ 64 = omega arith in
    let more : 2 ^ (p + 1) ≤ 2 ^ 64 = pow-le-pow_right two le in
    let fits : d * 2 ^ p < 2 ^ 64 = omega (arith, cat_below d p 0 small (pow_pos p)) in
    ap (λ x. bit_or kept (x * 2 ^ p % 2 ^ 64)) low_bit ∙ ap (bit_or kept) (mod-eq_of_lt fits) ∙ or_comm kept (d * 2 ^ p) ∙ or_shifted d p kept low

-- the bits of what a mask leaves
pub digit_mod : (x n i : ℕ) → i < n → x % 2 ^ n / 2 ^ i % 2 ≡ x / 2 ^ i % 2
digit_mod x n i h = sym (bit_at_cat_low (x / 2 ^ n) n (x % 2 ^ n) i h) ∙ ap (λ z. z / 2 ^ i % 2) (shr_split x n)

-- two lists of limbs with the same bits are one
pub same_limbs : (len : ℕ) (xs ys : List ℕ) → ArePacked len xs → ArePacked len ys →
    unpacked len xs ≡ unpacked len ys → xs ≡ ys
same_limbs len xs ys x y same =
    ext_get_or 0 xs ys (omega (arith, x.count, y.count)) (λ k h.
    same_from_bits_below 64 _ _ (x.each k h) (y.each k (omega (arith, x.count, y.count))) (λ i below.
    elim (cases_lt (k * 64 + i) len) [
      | inl within ↦
          let q : (k * 64 + i) / 64 ≡ k = omega arith in
          let m : (k * 64 + i) % 64 ≡ i = omega arith in
          let bit : packed_bit xs (k * 64 + i) ≡ packed_bit ys (k * 64 + i) =
          sym (get_or-unpacked len xs (k * 64 + i) within) ∙ ap (λ l. get_or l (k * 64 + i) false) same ∙ get_or-unpacked len ys (k * 64 + i) within in
          let here : is_set (slice_index xs k) i ≡ is_set (slice_index ys k) i =
          ap (λ j. is_set (slice_index xs j) i) (sym q) ∙ ap (is_set (slice_index xs ((k * 64 + i) / 64))) (sym m) ∙ bit
          ∙ ap (λ j. is_set (slice_index ys j) ((k * 64 + i) % 64)) q ∙ ap (is_set (slice_index ys k)) m in
          sym (set_digit (slice_index xs k) i) ∙ ap one_if here ∙ set_digit (slice_index ys k) i
      | inr past ↦
          let last : len / 64 ≡ k = omega (arith, x.count) in
          let at : len % 64 ≤ i = omega (arith, div-add-mod len 64) in
          none_past xs len k i x last at ∙ sym (none_past ys len k i y last at)
    ]))

-- a limb shifted up within its width
pub shl_low : (y s k : ℕ) → y * 2 ^ k % 2 ^ (s + k) ≡ y % 2 ^ s * 2 ^ k
shl_low y s k =
    let r : ℕ = y % 2 ^ s in
    let q : ℕ = y / 2 ^ s in
    let whole : q * 2 ^ s * 2 ^ k + r * 2 ^ k ≡ y * 2 ^ k = sym (add-mul (q * 2 ^ s) r (2 ^ k)) ∙ ap (λ z. z * 2 ^ k) (shr_split y s) in
    let turn : q * 2 ^ s * 2 ^ k ≡ q * 2 ^ (s + k) = mul_assoc q (2 ^ s) (2 ^ k) ∙ ap (λ z. q * z) (sym (pow-add 2 s k)) in
    let small : r * 2 ^ k < 2 ^ (s + k) = shl_below r s k (mod_below y (2 ^ s) (pow_pos s)) in
    ap (λ z. z % 2 ^ (s + k)) (sym whole ∙ ap (λ z. z + r * 2 ^ k) turn) ∙ mod_low q (s + k) (r * 2 ^ k) small

-- bits that begin within one limb and go on in the next
joined_is : (x y s : ℕ) → s < 64 → x < 2 ^ 64 → (x / 2 ^ s < 2 ^ (64 - s)) × (bit_or (x / 2 ^ s) (y * 2 ^ (64 - s) % 2 ^ 64) ≡ y % 2 ^ s * 2 ^ (64 - s) + x / 2 ^ s)
joined_is x y s less fits =
    let k : ℕ = 64 - s in
    let w : s + k ≡ 64 = omega arith in
    let high : y * 2 ^ k % 2 ^ 64 ≡ y % 2 ^ s * 2 ^ k = ap (λ n. y * 2 ^ k % 2 ^ n) (sym w) ∙ shl_low y s k in
    let turn : 2 ^ 64 ≡ 2 ^ (k + s) = ap (λ n. 2 ^ n) (let e : 64 ≡ k + s = omega arith in e) in
    let below : x / 2 ^ s < 2 ^ k = shr_below x k s (omega (arith, turn)) in
    (below, ap (bit_or (x / 2 ^ s)) high ∙ or_comm (x / 2 ^ s) (y % 2 ^ s * 2 ^ k) ∙ or_shifted (y % 2 ^ s) k (x / 2 ^ s) below)

pub joined_low : (x y s i : ℕ) → s < 64 → x < 2 ^ 64 → s + i < 64 → is_set (bit_or (x / 2 ^ s) (y * 2 ^ (64 - s) % 2 ^ 64)) i ≡ is_set x (s + i)
joined_low x y s i less fits low =
    let k : ℕ = 64 - s in
    let h = joined_is x y s less fits in
    let digit : (y % 2 ^ s * 2 ^ k + x / 2 ^ s) / 2 ^ i % 2 ≡ x / 2 ^ (s + i) % 2 = bit_at_cat_low (y % 2 ^ s) k (x / 2 ^ s) i (omega arith) ∙ ap (λ z. z % 2) (shr-shr x s i) in
    ap (λ z. is_set z i) h.1 ∙ set_same (y % 2 ^ s * 2 ^ k + x / 2 ^ s) i x (s + i) digit

pub joined_high : (x y s i : ℕ) → s < 64 → x < 2 ^ 64 → 64 ≤ s + i → i < 64 → is_set (bit_or (x / 2 ^ s) (y * 2 ^ (64 - s) % 2 ^ 64)) i ≡ is_set y (s + i - 64)
joined_high x y s i less fits high within =
    let k : ℕ = 64 - s in
    let h = joined_is x y s less fits in
    let place : i - k ≡ s + i - 64 = omega arith in
    let digit : (y % 2 ^ s * 2 ^ k + x / 2 ^ s) / 2 ^ i % 2 ≡ y / 2 ^ (s + i - 64) % 2 =
    bit_at_cat_high (y % 2 ^ s) k (x / 2 ^ s) i h.0 (omega arith) ∙ digit_mod y s (i - k) (omega arith) ∙ ap (λ j. y / 2 ^ j % 2) place in
    ap (λ z. is_set z i) h.1 ∙ set_same (y % 2 ^ s * 2 ^ k + x / 2 ^ s) i y (s + i - 64) digit

pub single : (x s i : ℕ) → is_set (x / 2 ^ s) i ≡ is_set x (s + i)
single x s i = set_same (x / 2 ^ s) i x (s + i) (ap (λ z. z % 2) (shr-shr x s i))

-- the bits that are cut off
pub is_set-cut : (x n i : ℕ) → i < n → is_set (x % 2 ^ n) i ≡ is_set x i
is_set-cut x n i h = set_same (x % 2 ^ n) i x i (digit_mod x n i h)

-- where a bit of the list stands
pub bit_here : (len : ℕ) (limbs : List ℕ) (j k r : ℕ) → j < len → j / 64 ≡ k → j % 64 ≡ r → is_set (slice_index limbs k) r ≡ get_or (unpacked len limbs) j false
bit_here len limbs j k r within q m =
    ap (λ n. is_set (slice_index limbs n) r) (sym q) ∙ ap (is_set (slice_index limbs (j / 64))) (sym m) ∙ sym (get_or-unpacked len limbs j within)

-- a limb with one bit more
pub limb_more : (f : ℕ → Bool) (limb n x : ℕ) → n < 64 → x < 2 → limb < 2 ^ n → is_set x 0 ≡ f n → ((k : ℕ) → k < n → is_set limb k ≡ f k) →
    (bit_or limb (x * 2 ^ n % 2 ^ 64) < 2 ^ (n + 1)) × ((k : ℕ) → k < n + 1 → is_set (bit_or limb (x * 2 ^ n % 2 ^ 64)) k ≡ f k)
limb_more f limb n x within small low bit old =
    let two : 0 < 2 = omega arith in
    let le : n + 1 ≤ 64 = omega arith in
    let most : 2 ^ (n + 1) ≤ 2 ^ 64 = pow-le-pow_right two le in
    let below : x * 2 ^ n + limb < 2 ^ (n + 1) = cat_below x n limb small low in
    let fits : x * 2 ^ n < 2 ^ 64 = omega arith in
    let is : bit_or limb (x * 2 ^ n % 2 ^ 64) ≡ x * 2 ^ n + limb = ap (bit_or limb) (mod-eq_of_lt fits) ∙ or_comm limb (x * 2 ^ n) ∙ or_shifted x n limb low in (
      omega (arith, is),
      λ k h.
          ap (λ z. is_set z k) is ∙
          elim (cases_lt k n) [
            | inl before ↦ set_same (x * 2 ^ n + limb) k limb k (bit_at_cat_low x n limb k before) ∙ old k before
            | inr past ↦
                let same : k ≡ n = omega arith in
                let none : n - n ≡ 0 = omega arith in
                ap (is_set (x * 2 ^ n + limb)) same ∙ set_same (x * 2 ^ n + limb) n x (n - n) (bit_at_cat_high x n limb n low (omega arith)) ∙ ap (is_set x) none ∙ bit ∙ ap f (sym same)
          ],
    )

-- a list is unpacked from the limbs that have its bits
pub unpacked_all : (bits : List Bool) (limbs : List ℕ) → ((k : ℕ) → k < length bits → packed_bit limbs k ≡ get_or bits k false) → unpacked (length bits) limbs ≡ bits
unpacked_all bits limbs same =
    ext_get_or false _ _ (length-unpacked (length bits) limbs) (λ k h.
    let within : k < length bits = omega (arith, length-unpacked (length bits) limbs) in
    get_or-unpacked (length bits) limbs k within ∙ same k within)

-- the last limb before so many ones, of the number x before it and of y in it, has the one of this number
pub record InLimb (len : ℕ) (limbs : List ℕ) (number s x : ℕ) : Type 0 where
  pub rest : ℕ
  pub small : rest ≤ 64
  pub within : s * 64 + rest ≤ len
  pub is : x ≡ ones_in (take (s * 64) (unpacked len limbs))
  pub less : x < number
  pub whole : slice_index limbs s % 2 ^ rest ≡ slice_index limbs s
  pub enough : number ≤ x + count_ones (slice_index limbs s)

pub InLimb-last : (len : ℕ) (limbs before : List ℕ) (number s : ℕ) → ArePacked len limbs → CountsBefore (unpacked len limbs) before → number ≤ ones_in (unpacked len limbs) →
    s < length before → slice_index before s < number → ((k : ℕ) → s + 1 ≤ k → k < length before → number ≤ slice_index before k) → InLimb len limbs number s (slice_index before s)
InLimb-last len limbs before number s are counts enough here less not_less =
    let u : List Bool = unpacked len limbs in
    let size : length before ≡ len / 64 + 1 = omega (arith, counts.len, length-unpacked len limbs) in
    let x : ℕ = slice_index before s in
    let is : x ≡ ones_in (take (s * 64) u) = counts.ones s here in
    elim (cases_lt s (len / 64)) [
      | inl early ↦
          let next : s + 1 < length before = omega arith in
          let last : number ≤ slice_index before (s + 1) = not_less (s + 1) (omega arith) next in
          let whole : slice_index limbs s % 2 ^ 64 ≡ slice_index limbs s = mod-eq_of_lt (are.each s (omega (arith, are.count))) in
          let turn : s * 64 + 64 ≡ (s + 1) * 64 = omega arith in
          record {
            rest = 64;
            small = omega arith;
            within = omega arith;
            is = is;
            less = less;
            whole = whole;
            enough = omega (arith, last, counts.ones (s + 1) next, ones_in-front len limbs s 64 (omega arith) (omega arith), ap (λ k. ones_in (take k u)) turn, ap count_ones whole);
          }
      | inr late ↦
          let same : s ≡ len / 64 = omega arith in
          let r : ℕ = len % 64 in
          let low : slice_index limbs s < 2 ^ r = omega (arith, are.rest, ap (slice_index limbs) same) in
          let whole : slice_index limbs s % 2 ^ r ≡ slice_index limbs s = mod-eq_of_lt low in
          let turn : s * 64 + r ≡ len = omega arith in
          record {
            rest = r;
            small = omega arith;
            within = omega arith;
            is = is;
            less = less;
            whole = whole;
            enough = omega (arith, ones_in-front len limbs s r (omega arith) (omega arith), ap (λ k. ones_in (take k u)) turn, ap ones_in (take_all len u (omega (arith, length-unpacked len limbs))), ap count_ones whole);
          }
    ]

-- the place within the limb is a place of the list
pub InLimb-within : (len : ℕ) (limbs : List ℕ) (number s x r : ℕ) (h : InLimb len limbs number s x) → ((k : ℕ) → k < r → count_ones (slice_index limbs s % 2 ^ k) < number - x) → r ≤ h.rest
InLimb-within len limbs number s x r h first =
    elim (cases_lt h.rest r) [ inr le ↦ le | inl less ↦ absurd (omega (arith, first h.rest less, ap count_ones h.whole, h.enough, h.less)) ]

pub InLimb-there : (len : ℕ) (limbs : List ℕ) (number s x r : ℕ) (h : InLimb len limbs number s x) → r ≤ h.rest → count_ones (slice_index limbs s % 2 ^ r) ≡ number - x →
    ones_in (take (s * 64 + r) (unpacked len limbs)) ≡ number
InLimb-there len limbs number s x r h within found =
    omega (arith, ones_in-front len limbs s r (omega (arith, h.small)) (omega (arith, h.within)), h.is, h.less)

pub InLimb-first : (len : ℕ) (limbs : List ℕ) (number s x r : ℕ) (h : InLimb len limbs number s x) → r ≤ h.rest →
    ((k : ℕ) → k < r → count_ones (slice_index limbs s % 2 ^ k) < number - x) → (k : ℕ) → k < s * 64 + r → ones_in (take k (unpacked len limbs)) < number
InLimb-first len limbs number s x r h within first k below =
    let u : List Bool = unpacked len limbs in
    elim (cases_lt k (s * 64)) [
      | inl early ↦ omega (arith, ones_in-later u k (s * 64) (omega arith), h.is, h.less)
      | inr late ↦
          let m : ℕ = k - s * 64 in
          omega (arith, ones_in-front len limbs s m (omega (arith, h.small)) (omega (arith, h.within)), ap (λ n. ones_in (take n u)) (let e : s * 64 + m ≡ k = omega arith in e), first m (omega arith), h.is, h.less)
    ]

-- a limb turned
pub set_turned : (x i : ℕ) → x < 2 ^ 64 → i < 64 → is_set (bit_not w64 x) i ≡ not (is_set x i)
set_turned x i fits within =
    let turn : bit_not w64 x / 2 ^ i % 2 ≡ 1 - x / 2 ^ i % 2 = bit_at_not w64 x i fits within in
    elim (cases_Bool (is_set x i)) [
      | inl one ↦ set_false (bit_not w64 x) i (omega (arith, turn, set_digit x i, ap one_if one)) ∙ sym (ap not one)
      | inr none ↦ set_true (bit_not w64 x) i (omega (arith, turn, set_digit x i, ap one_if none)) ∙ sym (ap not none)
    ]
