-- Laws of bits that are being made: a limb more is joined to the last one, and goes on in the next.
use Rattle.std.proofs.Common.{ℕ, ◌+◌, ◌-◌, ◌*◌, ◌/◌, ◌%◌, ◌^◌, ◌<◌, ◌≤◌, ◌≡◌, get_or, Bool, true, false, List, [], ◌∷◌, ◌++◌, length, take, drop, replicate, ap, sym, refl, ◌∙◌, inl, inr, arith, append_assoc, length-append, length-drop}
use Rattle.std.specs.Int.RustNames.{bit_or}
use Rattle.std.proofs.Math.Nat.{mod-eq_of_lt, pow-le-pow_right}
use Rattle.std.proofs.lemmas.Bool.{cases_lt}
use Rattle.std.proofs.lemmas.List.{length_push, length-replicate, length-take, get_or_append_left, get_or-append_right, get_or_push, get_or-replicate, get_or-take, get_or-drop, ext_get_or, drop-drop, replicate-append-replicate}
use Rattle.std.proofs.lemmas.Nat.{or_comm, or_shifted, mod_below, pow_pos, shr-shr, shr_below}
use Rattle.std.proofs.lemmas.Nat.Bits.{bit_at_cat_low, bit_at_cat_high, bit_at_mask_inside, same_from_bits_below}
use Rattle.std.proofs.Math.Seq.{take-add}
use Rattle.std.specs.List.{RotatedLeft}
use Rattle.lucy_word.specs.Bits.{one_if}
use Rattle.lucy_word.specs.Packing.{is_set, limb_bits, packed_bit, unpacked, ArePacking}
use Rattle.lucy_word.proofs.LimbLaws.{length-limb_bits, get_or-limb_bits, length-unpacked, get_or-unpacked, set_same, digit_mod, is_set-cut, single, shl_low, unpacked_all, set_true, set_digit}
use Rattle.lucy_word.proofs.LimbWalk.{joined_below, packed_more, each_more}

-- a limb joined to the bits of another
joined_is : (x y at : ℕ) → at < 64 → x < 2 ^ at → bit_or x (y * 2 ^ at % 2 ^ 64) ≡ y % 2 ^ (64 - at) * 2 ^ at + x
joined_is x y at less low =
    let s : ℕ = 64 - at in
    let w : s + at ≡ 64 = omega arith in
    let high : y * 2 ^ at % 2 ^ 64 ≡ y % 2 ^ s * 2 ^ at = ap (λ n. y * 2 ^ at % 2 ^ n) (sym w) ∙ shl_low y s at in
    ap (bit_or x) high ∙ or_comm x (y % 2 ^ s * 2 ^ at) ∙ or_shifted (y % 2 ^ s) at x low

joined_low : (x y at i : ℕ) → at < 64 → x < 2 ^ at → i < at → is_set (bit_or x (y * 2 ^ at % 2 ^ 64)) i ≡ is_set x i
joined_low x y at i less low h =
    let s : ℕ = 64 - at in
    ap (λ z. is_set z i) (joined_is x y at less low) ∙ set_same (y % 2 ^ s * 2 ^ at + x) i x i (bit_at_cat_low (y % 2 ^ s) at x i h)

joined_high : (x y at i : ℕ) → at < 64 → x < 2 ^ at → at ≤ i → i < 64 → is_set (bit_or x (y * 2 ^ at % 2 ^ 64)) i ≡ is_set y (i - at)
joined_high x y at i less low h within =
    let s : ℕ = 64 - at in
    ap (λ z. is_set z i) (joined_is x y at less low)
    ∙ set_same (y % 2 ^ s * 2 ^ at + x) i y (i - at) (bit_at_cat_high (y % 2 ^ s) at x i low h ∙ digit_mod y s (i - at) (omega arith))

joined_fits : (x y at : ℕ) → at < 64 → x < 2 ^ at → bit_or x (y * 2 ^ at % 2 ^ 64) < 2 ^ 64
joined_fits x y at less low =
    let s : ℕ = 64 - at in
    let part : y % 2 ^ s < 2 ^ s = mod_below y (2 ^ s) (pow_pos s) in
    let w : 2 ^ (s + at) ≡ 2 ^ 64 = ap (λ n. 2 ^ n) (let e : s + at ≡ 64 = omega arith in e) in
    omega (arith, joined_is x y at less low, joined_below (y % 2 ^ s) at s x part low, w)

joined_small : (x y at n : ℕ) → at + n < 64 → x < 2 ^ at → y < 2 ^ n → bit_or x (y * 2 ^ at % 2 ^ 64) < 2 ^ (at + n)
joined_small x y at n less low small =
    let s : ℕ = 64 - at in
    let two : 0 < 2 = omega arith in
    let le : n ≤ s = omega arith in
    let most : 2 ^ n ≤ 2 ^ s = pow-le-pow_right two le in
    let same : y % 2 ^ s ≡ y = mod-eq_of_lt (omega arith) in
    let w : 2 ^ (n + at) ≡ 2 ^ (at + n) = ap (λ k. 2 ^ k) (let e : n + at ≡ at + n = omega arith in e) in
    omega (arith, joined_is x y at (omega arith) low, joined_below y at n x small low, w, ap (λ z. z * 2 ^ at) same)

-- the bits that were there, and those of a limb more
grown : (len n limb : ℕ) (whole : List ℕ) (last : ℕ) → ℕ → Bool
grown len n limb whole last k = get_or (unpacked len (whole ++ last ∷ []) ++ limb_bits n limb) k false

grown_old : (len n limb : ℕ) (whole : List ℕ) (last k : ℕ) → k < len → packed_bit (whole ++ last ∷ []) k ≡ grown len n limb whole last k
unfolding grown
grown_old len n limb whole last k h =
    let bits : List ℕ = whole ++ last ∷ [] in
    sym (get_or-unpacked len bits k h) ∙ sym (get_or_append_left (unpacked len bits) (limb_bits n limb) false k (omega (arith, length-unpacked len bits)))

grown_new : (len n limb : ℕ) (whole : List ℕ) (last i : ℕ) → i < n → is_set limb i ≡ grown len n limb whole last (len + i)
unfolding grown
grown_new len n limb whole last i h =
    let bits : List ℕ = whole ++ last ∷ [] in
    sym (get_or-limb_bits n limb i h) ∙ ap (λ k. get_or (limb_bits n limb) k false) (let e : i ≡ len + i - len = omega arith in e)
    ∙ sym (get_or-append_right (unpacked len bits) (limb_bits n limb) len (len + i) false (length-unpacked len bits) (omega arith))

-- of the whole limbs
grown_whole : (len n limb : ℕ) (whole : List ℕ) (last k : ℕ) → ArePacking len whole last → k < len / 64 * 64 → packed_bit whole k ≡ grown len n limb whole last k
grown_whole len n limb whole last k are h =
    ap (λ x. is_set x (k % 64)) (sym (get_or_append_left whole (last ∷ []) 0 (k / 64) (omega (arith, are.count)))) ∙ grown_old len n limb whole last k (omega arith)

-- of the last limb, joined
grown_last : (len n limb : ℕ) (whole : List ℕ) (last i : ℕ) → ArePacking len whole last → i < len % 64 + n → i < 64 →
    is_set (bit_or last (limb * 2 ^ (len % 64) % 2 ^ 64)) i ≡ grown len n limb whole last (len / 64 * 64 + i)
grown_last len n limb whole last i are h within =
    let at : ℕ = len % 64 in
    let small : at < 64 = omega arith in
    elim (cases_lt i at) [
      | inl before ↦
          let k : ℕ = len / 64 * 64 + i in
          joined_low last limb at i small are.rest before ∙ ap (is_set last) (let e : i ≡ k % 64 = omega arith in e)
          ∙ ap (λ y. is_set y (k % 64)) (sym (get_or_push whole last 0 (k / 64) (omega (arith, are.count)))) ∙ grown_old len n limb whole last k (omega arith)
      | inr past ↦
          joined_high last limb at i small are.rest past within ∙ grown_new len n limb whole last (i - at) (omega arith)
          ∙ ap (grown len n limb whole last) (let e : len + (i - at) ≡ len / 64 * 64 + i = omega arith in e)
    ]

-- the limbs that have these bits
grown_all : (len n limb : ℕ) (whole : List ℕ) (last : ℕ) (limbs : List ℕ) → ((k : ℕ) → k < len + n → packed_bit limbs k ≡ grown len n limb whole last k) →
    unpacked (len + n) limbs ≡ unpacked len (whole ++ last ∷ []) ++ limb_bits n limb
unfolding grown
grown_all len n limb whole last limbs same =
    let all : List Bool = unpacked len (whole ++ last ∷ []) ++ limb_bits n limb in
    let size : length all ≡ len + n = omega (arith, length-append (unpacked len (whole ++ last ∷ [])) (limb_bits n limb), length-unpacked len (whole ++ last ∷ []), length-limb_bits n limb) in
    ap (λ k. unpacked k limbs) (sym size) ∙ unpacked_all all limbs (λ k h. same k (omega arith))

-- all the limb's bits go into the last limb
pub push_within : (len n limb : ℕ) (whole : List ℕ) (last : ℕ) → ArePacking len whole last → limb < 2 ^ n → len % 64 + n < 64 →
    let x : ℕ = bit_or last (limb * 2 ^ (len % 64) % 2 ^ 64) in
    ArePacking (len + n) whole x × (unpacked (len + n) (whole ++ x ∷ []) ≡ unpacked len (whole ++ last ∷ []) ++ limb_bits n limb)
push_within len n limb whole last are small less =
    let at : ℕ = len % 64 in
    let x : ℕ = bit_or last (limb * 2 ^ at % 2 ^ 64) in
    let rest : 2 ^ (at + n) ≡ 2 ^ ((len + n) % 64) = ap (λ k. 2 ^ k) (let e : at + n ≡ (len + n) % 64 = omega arith in e) in (
      record { count = omega (arith, are.count); rest = omega (arith, rest, joined_small last limb at n less are.rest small); each = are.each },
      grown_all len n limb whole last (whole ++ x ∷ []) (λ k h.
          packed_more (grown len n limb whole last) whole (whole ++ x ∷ []) x (len / 64) (at + n) refl are.count (omega arith)
          (λ j below. grown_whole len n limb whole last j are below) (λ i below. grown_last len n limb whole last i are below (omega arith)) k (omega arith)),
    )

-- the last limb becomes whole, and the limb goes on in the next
pub push_over : (len n limb : ℕ) (whole after : List ℕ) (last : ℕ) → ArePacking len whole last → n ≤ 64 → limb < 2 ^ n → 64 ≤ len % 64 + n →
    after ≡ whole ++ bit_or last (limb * 2 ^ (len % 64) % 2 ^ 64) ∷ [] →
    let x : ℕ = limb / 2 ^ 1 / 2 ^ (64 - 1 - len % 64) in
    ArePacking (len + n) after x × (unpacked (len + n) (after ++ x ∷ []) ≡ unpacked len (whole ++ last ∷ []) ++ limb_bits n limb)
push_over len n limb whole after last are few small over is =
    let at : ℕ = len % 64 in
    let y : ℕ = bit_or last (limb * 2 ^ at % 2 ^ 64) in
    let s : ℕ = 64 - at in
    let r : ℕ = at + n - 64 in
    let x : ℕ = limb / 2 ^ 1 / 2 ^ (64 - 1 - at) in
    let next : x ≡ limb / 2 ^ s = shr-shr limb 1 (64 - 1 - at) ∙ ap (λ k. limb / 2 ^ k) (let e : 1 + (64 - 1 - at) ≡ s = omega arith in e) in
    let size : length after ≡ len / 64 + 1 = omega (arith, ap length is, length_push whole y, are.count) in
    let parts : limb < 2 ^ (r + s) = omega (arith, small, ap (λ k. 2 ^ k) (let e : n ≡ r + s = omega arith in e)) in
    let low : limb / 2 ^ s < 2 ^ r = shr_below limb r s parts in
    let rest : 2 ^ r ≡ 2 ^ ((len + n) % 64) = ap (λ k. 2 ^ k) (let e : r ≡ (len + n) % 64 = omega arith in e) in
    let place : len / 64 * 64 + 64 ≡ (len / 64 + 1) * 64 = omega arith in (
      record {
        count = omega arith;
        rest = omega arith;
        each = each_more whole after y is are.each (joined_fits last limb at (omega arith) are.rest);
      },
      grown_all len n limb whole last (after ++ x ∷ []) (λ k h.
          packed_more (grown len n limb whole last) after (after ++ x ∷ []) x (len / 64 + 1) r refl size (omega arith)
          (λ j below. packed_more (grown len n limb whole last) whole after y (len / 64) 64 is are.count (omega arith) (λ j' b. grown_whole len n limb whole last j' are b)
          (λ i b. grown_last len n limb whole last i are (omega arith) b) j (omega arith))
          (λ i below.
          ap (λ z. is_set z i) next ∙ single limb s i ∙ grown_new len n limb whole last (s + i) (omega arith)
          ∙ ap (grown len n limb whole last) (let e : len + (s + i) ≡ (len / 64 + 1) * 64 + i = omega arith in e)) k (omega arith)),
    )

-- a limb that has the bits of a part
pub bits_of_part : (bits : List Bool) (from n limb : ℕ) → from + n ≤ length bits → ((i : ℕ) → i < n → is_set limb i ≡ get_or bits (from + i) false) → limb_bits n limb ≡ take n (drop from bits)
bits_of_part bits from n limb within same =
    let size : length (take n (drop from bits)) ≡ n = omega (arith, length-take n (drop from bits), length-drop from bits) in
    ext_get_or false _ _ (length-limb_bits n limb ∙ sym size) (λ i h.
    let here : i < n = omega (arith, length-limb_bits n limb) in
    get_or-limb_bits n limb i here ∙ same i here ∙ sym (get_or-drop from bits i false) ∙ sym (get_or-take n (drop from bits) i false here))

-- or is one bit again and again
bits_of_run : (bit : Bool) (n limb : ℕ) → ((i : ℕ) → i < n → is_set limb i ≡ bit) → limb_bits n limb ≡ replicate n bit
bits_of_run bit n limb same =
    ext_get_or false _ _ (length-limb_bits n limb ∙ sym (length-replicate n bit)) (λ i h.
    let here : i < n = omega (arith, length-limb_bits n limb) in
    get_or-limb_bits n limb i here ∙ same i here ∙ sym (get_or-replicate n i bit false here))

pub run_more : (old now new : List Bool) (bit : Bool) (made some limb : ℕ) → now ≡ old ++ replicate made bit → new ≡ now ++ limb_bits some limb →
    ((i : ℕ) → i < some → is_set limb i ≡ bit) → new ≡ old ++ replicate (made + some) bit
run_more old now new bit made some limb before more same =
    more ∙ ap (λ l. l ++ limb_bits some limb) before ∙ ap (λ l. (old ++ replicate made bit) ++ l) (bits_of_run bit some limb same)
    ∙ append_assoc old (replicate made bit) (replicate some bit) ∙ ap (λ l. old ++ l) (replicate-append-replicate made some bit)

pub part_more : (old now new bits : List Bool) (from made some limb : ℕ) → from + (made + some) ≤ length bits → now ≡ old ++ take made (drop from bits) →
    new ≡ now ++ limb_bits some limb → ((i : ℕ) → i < some → is_set limb i ≡ get_or bits (from + made + i) false) → new ≡ old ++ take (made + some) (drop from bits)
part_more old now new bits from made some limb within before more same =
    let part : limb_bits some limb ≡ take some (drop made (drop from bits)) =
    bits_of_part bits (from + made) some limb (omega arith) same ∙ ap (λ l. take some l) (sym (drop-drop made from bits)) in
    more ∙ ap (λ l. l ++ limb_bits some limb) before ∙ ap (λ l. (old ++ take made (drop from bits)) ++ l) part
    ∙ append_assoc old (take made (drop from bits)) (take some (drop made (drop from bits))) ∙ ap (λ l. old ++ l) (sym (take-add made some (drop from bits)))

-- a limb of ones
pub ones_set : (n i : ℕ) → n ≤ 64 → i < n → is_set (18446744073709551615 % 2 ^ n) i ≡ true
ones_set n i few h =
    let all : 18446744073709551615 / 2 ^ i % 2 ≡ 1 = bit_at_mask_inside 0 64 i (omega arith) (omega arith) in
    is_set-cut 18446744073709551615 n i h ∙ set_true 18446744073709551615 i all

-- limbs with the same bits are one
pub same_limb : (n x y : ℕ) → x < 2 ^ n → y < 2 ^ n → ((i : ℕ) → i < n → is_set x i ≡ is_set y i) → x ≡ y
same_limb n x y low small same = same_from_bits_below n x y low small (λ i h. sym (set_digit x i) ∙ ap one_if (same i h) ∙ set_digit y i)

-- a turn of a period, from its bit at a place on and round to it
pub round : (v y : List Bool) (p at : ℕ) → p ≤ length v → at ≤ p → y ≡ take (p - at) (drop at v) ++ take at v → (length y ≡ p) × RotatedLeft (take p v) y p at
round v y p at within inside is =
    let a : List Bool = take (p - at) (drop at v) in
    let b : List Bool = take at v in
    let first : length a ≡ p - at = omega (arith, length-take (p - at) (drop at v), length-drop at v) in
    let second : length b ≡ at = omega (arith, length-take at v) in (
      omega (arith, ap length is, length-append a b),
      (
        λ k d h.
            ap (λ l. get_or l k d) is ∙ get_or_append_left a b d k (omega arith) ∙ get_or-take (p - at) (drop at v) k d (omega arith) ∙ get_or-drop at v k d
            ∙ ap (λ j. get_or v j d) (let e : at + k ≡ k + at = omega arith in e) ∙ sym (get_or-take p v (k + at) d h),
        λ k d far h.
            ap (λ l. get_or l k d) is ∙ get_or-append_right a b (p - at) k d first (omega arith) ∙ get_or-take at v (k - (p - at)) d (omega arith)
            ∙ ap (λ j. get_or v j d) (let e : k - (p - at) ≡ k + at - p = omega arith in e) ∙ sym (get_or-take p v (k + at - p) d (omega arith)),
      ),
    )
