-- A prefix is left out from its end back, as far as the turn goes back into it.
use Rattle.std.proofs.Common.{ℕ, ◌+◌, ◌-◌, ◌*◌, ◌%◌, ◌/◌, ◌<◌, ◌≤◌, ◌≡◌, ◌⊎◌, Bool, false, List, length, get_or, take, ap, sym, ◌∙◌, subst, inl, inr, arith}
use Rattle.std.proofs.Math.Nat.{div-add-mod, mod-lt, add-mul-mod_self_left, add-mod_right, mod-eq_of_lt, le_of_dvd}
use Rattle.std.proofs.lemmas.Bool.{cases_lt}
use Rattle.std.proofs.lemmas.List.{get_or-take, length-take}
use Prim.Native.Nat.{◌∣◌}
use Rattle.std.specs.List.{RotatedLeft}
use Rattle.lucy_word.specs.Bits.{Bits, bit_at}
use Rattle.lucy_word.specs.Shortest.{Same, IsShortForm}
use Rattle.lucy_word.specs.Turns.{Repeats, turning, GoesOnAs, EndsAt}
use Rattle.lucy_word.proofs.BitsLaws.{bit_at-prefix, bit_at-period}
use Rattle.lucy_word.proofs.Repeats.{repeats_period, repeats_times, repeats_same, repeats_earlier, repeats_later}
use Rattle.lucy_word.proofs.ShortTurn.{bit_at-turning}

-- one bit back in the turn, from its first to its last
abbrev pub IsBefore : (at before p : ℕ) → Type 0
IsBefore at before p = ((at ≡ 0) × (before + 1 ≡ p)) ⊎ (before + 1 ≡ at)

pub goes_start : (u t : List Bool) → GoesOnAs (record { prefix = u; period = t }) (length u) t 0
goes_start u t i some =
    bit_at-period (record { prefix = u; period = t }) (length u + i) (omega arith)
    ∙ ap (λ n. get_or t (n % length t) false) (let e : length u + i - length u - 1 ≡ 0 + i - 0 - 1 = omega arith in e)
    ∙ sym (bit_at-period (turning t) (0 + i) (omega arith))

-- past the bit before, the turn goes on as past the bit
after_before : (t : List Bool) (at before i : ℕ) → 0 < i → IsBefore at before (length t) → bit_at (turning t) (before + 1 + i) ≡ bit_at (turning t) (at + i)
after_before t at before i some (inl first) =
    ap (bit_at (turning t)) (let e : before + 1 + i ≡ i + length t = omega (arith, first.1) in e) ∙ repeats_period (turning t) i some
    ∙ ap (bit_at (turning t)) (let e : i ≡ at + i = omega (arith, first.0) in e)
after_before t at before i some (inr later) = ap (bit_at (turning t)) (let e : before + 1 + i ≡ at + i = omega arith in e)

-- the last bit that is kept is that of the turn before: one more is left out
pub goes_back : (u t : List Bool) (k at before : ℕ) → 0 < k → k ≤ length u → before < length t → IsBefore at before (length t) →
    GoesOnAs (record { prefix = u; period = t }) k t at → get_or u (k - 1) false ≡ get_or t before false →
    GoesOnAs (record { prefix = u; period = t }) (k - 1) t before
goes_back u t k at before some within inside is goes same i h =
    let w : Bits = record { prefix = u; period = t } in
    elim (cases_lt 1 i) [
      | inl more ↦
          ap (bit_at w) (let e : k - 1 + i ≡ k + (i - 1) = omega arith in e) ∙ goes (i - 1) (omega arith)
          ∙ sym (after_before t at before (i - 1) (omega arith) is) ∙ ap (bit_at (turning t)) (let e : before + 1 + (i - 1) ≡ before + i = omega arith in e)
      | inr one ↦
          ap (bit_at w) (let e : k - 1 + i ≡ k = omega arith in e) ∙ bit_at-prefix w k within ∙ same ∙ sym (bit_at-turning t before inside)
          ∙ ap (bit_at (turning t)) (let e : before + 1 ≡ before + i = omega arith in e)
    ]

round : (t : List Bool) (at before : ℕ) → 0 < length t → IsBefore at before (length t) → bit_at (turning t) (at + length t) ≡ bit_at (turning t) (before + 1)
round t at before some (inl first) = ap (bit_at (turning t)) (let e : at + length t ≡ before + 1 = omega (arith, first.0, first.1) in e)
round t at before some (inr later) = repeats_period (turning t) at (omega arith) ∙ ap (bit_at (turning t)) (sym later)

-- it is not: the bits do not come again from before it on
pub goes_ends : (u t : List Bool) (k at before : ℕ) → 0 < k → k ≤ length u → before < length t → IsBefore at before (length t) →
    GoesOnAs (record { prefix = u; period = t }) k t at → (get_or u (k - 1) false ≡ get_or t before false → ⊥) → EndsAt (record { prefix = u; period = t }) k
goes_ends u t k at before some within inside is goes other again same =
    let w : Bits = record { prefix = u; period = t } in
    let p : ℕ = length t in
    let turned : bit_at (turning t) (at + p) ≡ bit_at (turning t) (before + 1) = round t at before (omega arith) is in
    other (sym (bit_at-prefix w k within) ∙ sym same ∙ goes p (omega arith) ∙ turned ∙ bit_at-turning t before inside)

-- a turn that divides the period: the bits of the period are those of its first turn
pub turn_bits : (v : List Bool) (p : ℕ) → 0 < p → p ≤ length v → Repeats (bit_at (turning v)) 0 p → (i : ℕ) → 0 < i → bit_at (turning v) i ≡ bit_at (turning (take p v)) i
turn_bits v p some le again i h =
    let t : List Bool = take p v in
    let r : ℕ = (i - 1) % p in
    let q : ℕ = (i - 1) / p in
    let parts : p * q + r ≡ i - 1 = div-add-mod (i - 1) p in
    let below : r < p = mod-lt (i - 1) some in
    let len : length t ≡ p = omega (arith, length-take p v) in
    let here : bit_at (turning v) i ≡ get_or v r false =
    ap (bit_at (turning v)) (let e : i ≡ r + 1 + q * p = omega arith in e) ∙ repeats_times (bit_at (turning v)) 0 p q again (r + 1) (omega arith)
    ∙ bit_at-turning v r (omega arith) in
    let there : bit_at (turning t) i ≡ get_or t r false =
    bit_at-period (turning t) i h ∙ ap (λ n. get_or t (n % length t) false) (let e : i - 0 - 1 ≡ i - 1 = omega arith in e) ∙ ap (λ n. get_or t ((i - 1) % n) false) len in
    here ∙ sym (get_or-take p v r false below) ∙ sym there

-- the period cut to a turn leaves the bits as they are
pub same_turn : (u v : List Bool) (p : ℕ) → 0 < p → p ≤ length v → Repeats (bit_at (turning v)) 0 p →
    Same (record { prefix = u; period = v }) (record { prefix = u; period = take p v })
same_turn u v p some le again i h =
    let w : Bits = record { prefix = u; period = v } in
    let x : Bits = record { prefix = u; period = take p v } in
    elim (cases_lt (length u) i) [
      | inl over ↦
          let e : length u + (i - length u) ≡ i = omega arith in
          ap (bit_at w) (sym e) ∙ goes_start u v (i - length u) (omega arith) ∙ turn_bits v p some le again (0 + (i - length u)) (omega arith)
          ∙ sym (goes_start u (take p v) (i - length u) (omega arith)) ∙ ap (bit_at x) e
      | inr under ↦ bit_at-prefix w i under ∙ sym (bit_at-prefix x i under)
    ]

-- the prefix cut to what is kept, and the turn begun where the word goes on, leave the bits as they are
same_kept : (u t turned : List Bool) (k at : ℕ) → k ≤ length u → at < length t → GoesOnAs (record { prefix = u; period = t }) k t at → length turned ≡ length t →
    RotatedLeft t turned (length t) at → Same (record { prefix = u; period = t }) (record { prefix = take k u; period = turned })
same_kept u t turned k at within inside goes len rotated i h =
    let w : Bits = record { prefix = u; period = t } in
    let x : Bits = record { prefix = take k u; period = turned } in
    let p : ℕ = length t in
    let kept : length (take k u) ≡ k = omega (arith, length-take k u) in
    elim (cases_lt k i) [
      | inr under ↦
          bit_at-prefix w i (omega arith) ∙ sym (get_or-take k u (i - 1) false (omega arith)) ∙ sym (bit_at-prefix x i (omega arith))
      | inl over ↦
          let r : ℕ = (i - k - 1) % p in
          let q : ℕ = (i - k - 1) / p in
          let parts : p * q + r ≡ i - k - 1 = div-add-mod (i - k - 1) p in
          let below : r < p = mod-lt (i - k - 1) (omega arith) in
          let here : bit_at w i ≡ get_or t ((at + r) % p) false =
          ap (bit_at w) (let e : i ≡ k + (i - k) = omega arith in e) ∙ goes (i - k) (omega arith) ∙ bit_at-period (turning t) (at + (i - k)) (omega arith)
          ∙ ap (λ n. get_or t n false) (ap (λ n. n % p) (let e : at + (i - k) - 0 - 1 ≡ at + r + p * q = omega arith in e) ∙ add-mul-mod_self_left (at + r) p q) in
          let there : bit_at x i ≡ get_or turned r false =
          bit_at-period x i (omega arith) ∙ ap (λ n. get_or turned (n % length turned) false) (let e : i - length (take k u) - 1 ≡ i - k - 1 = omega arith in e)
          ∙ ap (λ n. get_or turned ((i - k - 1) % n) false) len in
          let moved : get_or t ((at + r) % p) false ≡ get_or turned r false =
          (elim (cases_lt (r + at) p) [
            | inl near ↦ ap (λ n. get_or t n false) (mod-eq_of_lt (let e : at + r < p = omega arith in e) ∙ (let e : at + r ≡ r + at = omega arith in e)) ∙ sym (rotated.0 r false near)
            | inr far ↦
                ap (λ n. get_or t n false)
                (ap (λ n. n % p) (let e : at + r ≡ r + at - p + p = omega arith in e) ∙ add-mod_right (r + at - p) p ∙ mod-eq_of_lt (let e : r + at - p < p = omega arith in e))
                ∙ sym (rotated.1 r false far below)
          ]) in
          here ∙ moved ∙ sym there
    ]

-- the shortest form
pub short_form : (u v turned : List Bool) (p k at : ℕ) → 0 < p → p ≤ length v → Repeats (bit_at (turning v)) 0 p →
    ((d : ℕ) → Repeats (bit_at (turning v)) 0 d → p ∣ d) → k ≤ length u → at < p → GoesOnAs (record { prefix = u; period = take p v }) k (take p v) at →
    EndsAt (record { prefix = u; period = take p v }) k → length turned ≡ p → RotatedLeft (take p v) turned p at →
    IsShortForm (record { prefix = u; period = v }) (record { prefix = take k u; period = turned })
short_form u v turned p k at some le again least within inside goes ends len rotated =
    let w : Bits = record { prefix = u; period = v } in
    let cut : Bits = record { prefix = u; period = take p v } in
    let x : Bits = record { prefix = take k u; period = turned } in
    let turn : length (take p v) ≡ p = omega (arith, length-take p v) in
    let P : ℕ → Type 0 = λ n. RotatedLeft (take p v) turned n at in
    let first : Same w cut = same_turn u v p some le again in
    let second : Same cut x = same_kept u (take p v) turned k at within (omega arith) goes (omega arith) (subst P (sym turn) rotated) in
    let same : Same w x = λ i h. first i h ∙ second i h in
    let back : Same x w = λ i h. sym (same i h) in
    let kept : length (take k u) ≡ k = omega (arith, length-take k u) in
    record {
      nonempty = omega arith;
      same = same;
      shortest = record {
        period = λ y some_y is.
            let of_y : Repeats (bit_at x) (length y.prefix) (length y.period) =
            repeats_same y x (length y.prefix) (length y.period) is (repeats_period y) in
            let from_x : Repeats (bit_at x) (length u) (length y.period) =
            repeats_earlier (bit_at x) (length u) (length turned) (length y.prefix) (length y.period) (omega arith)
            (repeats_later (bit_at x) (length (take k u)) (length u) (length turned) (omega arith) (repeats_period x)) of_y in
            let from_w : Repeats (bit_at w) (length u) (length y.period) = repeats_same x w (length u) (length y.period) back from_x in
            let of_v : Repeats (bit_at (turning v)) 0 (length y.period) = λ i h.
            ap (bit_at (turning v)) (let e : i + length y.period ≡ 0 + (i + length y.period) = omega arith in e)
            ∙ sym (goes_start u v (i + length y.period) (omega arith))
            ∙ ap (bit_at w) (let e : length u + (i + length y.period) ≡ length u + i + length y.period = omega arith in e)
            ∙ from_w (length u + i) (omega arith) ∙ goes_start u v i h ∙ ap (bit_at (turning v)) (let e : 0 + i ≡ i = omega arith in e) in
            let small : p ≤ length y.period = le_of_dvd some_y (least (length y.period) of_v) in
            omega arith;
        prefix = λ y long is.
            elim (cases_lt (length y.prefix) k) [
              | inr more ↦ omega arith
              | inl less ↦
                  let of_y : Repeats (bit_at cut) (length y.prefix) (length y.period) =
                  repeats_same y cut (length y.prefix) (length y.period) (λ i h. is i h ∙ sym (second i h)) (repeats_period y) in
                  let here : bit_at cut (k + length (take p v)) ≡ bit_at cut k =
                  ap (bit_at cut) (let e : k + length (take p v) ≡ k + length y.period = omega arith in e) ∙ of_y k less in
                  absurd (ends (omega arith) here)
            ];
      };
    }
