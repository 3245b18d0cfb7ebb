-- The shortest turn of a period is found by leaving out its factors one after another.
use Rattle.std.proofs.Common.{ℕ, suc, zero, ◌+◌, ◌-◌, ◌*◌, ◌%◌, ◌/◌, ◌<◌, ◌≤◌, ◌≡◌, Bool, false, List, length, take, get_or, ap, sym, ◌∙◌, subst, inl, inr, lit≤, arith}
use Rattle.std.proofs.Math.Nat.{div-mul_cancel, div-add-mod, mod-lt, mod-eq_of_lt, add-mod_right, add-mul-mod_self_left, dvd_refl, dvd_trans, dvd-mul_left, dvd-mul_right, dvd-mul_right_of_dvd, dvd_of_mul-dvd-mul_right, dvd_of_mod-eq-zero, mod-eq-zero_of_dvd, le_of_dvd, pos_of_dvd_of_pos, eq_of_mul-eq-mul_right, mul-le-mul_right}
use Rattle.std.proofs.lemmas.Bool.{cases_lt, cases_eq}
use Rattle.std.proofs.lemmas.List.{length-take, get_or-take}
use Prim.Native.Nat.{◌∣◌}
use Rattle.lucy_word.specs.Bits.{bit_at}
use Rattle.lucy_word.specs.Turns.{Repeats, turning}
use Rattle.lucy_word.proofs.BitsLaws.{bit_at-period}
use Rattle.lucy_word.proofs.Multiples.{coprime_divides}
use Rattle.lucy_word.proofs.Repeats.{repeats_gcd, repeats_multiple, repeats_period}

-- what is known while factors are left out: `rest` has those that were not looked at
pub record Reducing (v : List Bool) (turn rest factor : ℕ) : Type 0 where
  pub whole : turn ∣ length v
  pub repeats : Repeats (bit_at (turning v)) 0 turn
  pub rest_divides : rest ∣ turn
  pub some_rest : 0 < rest
  pub left : (d : ℕ) → 0 < d → d ∣ turn → Repeats (bit_at (turning v)) 0 d → turn / d ∣ rest
  pub none : (t : ℕ) → 1 < t → t < factor → t ∣ rest → ⊥
  pub two : 2 ≤ factor

quotient_divides : (d n : ℕ) → d ∣ n → n / d ∣ n
quotient_divides d n h =
    let P : ℕ → Type 0 = λ u. n / d ∣ u in
    subst P (div-mul_cancel d h) (dvd-mul_right (n / d) d)

pub reducing_start : (v : List Bool) → 0 < length v → Reducing v (length v) (length v) 2
reducing_start v some = record {
  whole = dvd_refl (length v);
  repeats = repeats_period (turning v);
  rest_divides = dvd_refl (length v);
  some_rest = some;
  left = λ d p h r. quotient_divides d (length v) h;
  none = λ t p h r. absurd (omega arith);
  two = lit≤ tt;
}

-- and that without the factor that was refused last the bits do not come again
pub record Trying (v : List Bool) (turn rest factor refused : ℕ) : Type 0 where
  pub reducing : Reducing v turn rest factor
  pub passed : refused ≤ factor
  pub other : factor ≡ refused → Repeats (bit_at (turning v)) 0 (turn / factor) → ⊥

-- no factor is greater than what is left
pub factor_within : (v : List Bool) (turn rest factor : ℕ) → Reducing v turn rest factor → 1 < rest → factor ≤ rest
factor_within v turn rest factor h more =
    elim (cases_lt rest factor) [ inl less ↦ absurd (h.none rest more less (dvd_refl rest)) | inr le ↦ le ]

-- a factor that is no factor of the rest
pub reducing_next : (v : List Bool) (turn rest factor : ℕ) → Reducing v turn rest factor → (rest % factor ≡ 0 → ⊥) → Reducing v turn rest (factor + 1)
reducing_next v turn rest factor h other = record {
  whole = h.whole;
  repeats = h.repeats;
  rest_divides = h.rest_divides;
  some_rest = h.some_rest;
  left = h.left;
  none = λ t p below r.
      elim (cases_eq t factor) [
        | inl same ↦
            let P : ℕ → Type 0 = λ u. u ∣ rest in
            other (mod-eq-zero_of_dvd factor (subst P same r))
        | inr apart ↦ h.none t p (omega arith) r
      ];
  two = omega (arith, h.two);
}

-- the bits come again after the turn without this factor
pub reducing_hit : (v : List Bool) (turn rest factor : ℕ) → Reducing v turn rest factor → rest % factor ≡ 0 → Repeats (bit_at (turning v)) 0 (turn / factor) →
    Reducing v (turn / factor) (rest / factor) factor
reducing_hit v turn rest factor h even again =
    let some_factor : 0 < factor = omega (arith, h.two) in
    let of_rest : factor ∣ rest = dvd_of_mod-eq-zero factor even in
    let of_turn : factor ∣ turn = dvd_trans factor of_rest h.rest_divides in
    let er : rest / factor * factor ≡ rest = div-mul_cancel factor of_rest in
    let et : turn / factor * factor ≡ turn = div-mul_cancel factor of_turn in
    let P : ℕ → Type 0 = λ u. u ∣ turn / factor * factor in
    let Q : ℕ → Type 0 = λ u. rest ∣ u in
    record {
      whole = dvd_trans (turn / factor) (quotient_divides factor turn of_turn) h.whole;
      repeats = again;
      rest_divides = dvd_of_mul-dvd-mul_right (rest / factor) some_factor (subst P (sym er) (subst Q (sym et) h.rest_divides));
      some_rest = pos_of_dvd_of_pos (quotient_divides factor rest of_rest) h.some_rest;
      left = λ d p divides r.
          let ed : turn / factor / d * d ≡ turn / factor = div-mul_cancel d divides in
          let all : turn / d * d ≡ turn = div-mul_cancel d (dvd_trans d divides (quotient_divides factor turn of_turn)) in
          let apart : turn / d ≡ turn / factor / d * factor =
          eq_of_mul-eq-mul_right d p (turn / d) (turn / factor / d * factor)
          (let s : turn / factor / d * d * factor ≡ turn / factor * factor = ap (λ u. u * factor) ed in omega arith) in
          let S : ℕ → Type 0 = λ u. u ∣ rest / factor * factor in
          let T : ℕ → Type 0 = λ u. turn / d ∣ u in
          dvd_of_mul-dvd-mul_right (turn / factor / d) some_factor
          (subst S apart (subst T (sym er) (h.left d p (dvd_trans d divides (quotient_divides factor turn of_turn)) r)));
      none = λ t p below r.
          let U : ℕ → Type 0 = λ u. t ∣ u in
          h.none t p below (subst U er (dvd-mul_right_of_dvd t r factor));
      two = h.two;
    }

-- they do not
pub reducing_miss : (v : List Bool) (turn rest factor : ℕ) → Reducing v turn rest factor → rest % factor ≡ 0 → (Repeats (bit_at (turning v)) 0 (turn / factor) → ⊥) →
    Reducing v turn (rest / factor) factor
reducing_miss v turn rest factor h even other =
    let some_factor : 0 < factor = omega (arith, h.two) in
    let of_rest : factor ∣ rest = dvd_of_mod-eq-zero factor even in
    let er : rest / factor * factor ≡ rest = div-mul_cancel factor of_rest in
    let some_rest : 0 < rest / factor = pos_of_dvd_of_pos (quotient_divides factor rest of_rest) h.some_rest in
    record {
      whole = h.whole;
      repeats = h.repeats;
      rest_divides = dvd_trans (rest / factor) (quotient_divides factor rest of_rest) h.rest_divides;
      some_rest = some_rest;
      left = λ d p divides r.
          let m : ℕ = turn / d in
          let em : m * d ≡ turn = div-mul_cancel d divides in
          let apart : (t : ℕ) → t ∣ factor → t ∣ m → t ≤ 1 = λ t of_factor of_m.
          let small : t ≤ factor = le_of_dvd some_factor of_factor in
          elim (cases_lt 1 t) [
            | inr le ↦ le
            | inl more ↦
                elim (cases_eq t factor) [
                  | inl same ↦
                      let A : ℕ → Type 0 = λ u. u ∣ m in
                      let of_m' : factor ∣ m = subst A same of_m in
                      let ef : m / factor * factor ≡ m = div-mul_cancel factor of_m' in
                      let part : turn / factor ≡ m / factor * d =
                      eq_of_mul-eq-mul_right factor some_factor (turn / factor) (m / factor * d)
                      (let e : turn / factor * factor ≡ turn = div-mul_cancel factor (dvd_trans factor of_rest h.rest_divides) in
                      let s : m / factor * factor * d ≡ m * d = ap (λ u. u * d) ef in
                      omega arith) in
                      let B : ℕ → Type 0 = λ u. d ∣ u in
                      absurd (other (repeats_multiple (bit_at (turning v)) 0 d (turn / factor) (subst B (sym part) (dvd-mul_left d (m / factor))) r))
                  | inr less ↦ absurd (h.none t more (omega arith) (dvd_trans t of_factor of_rest))
                ]
          ] in
          let C : ℕ → Type 0 = λ u. m ∣ u in
          coprime_divides factor m (rest / factor) some_factor some_rest apart
          (subst C (let e : rest ≡ factor * (rest / factor) = omega arith in e) (h.left d p divides r));
      none = λ t p below r.
          let U : ℕ → Type 0 = λ u. t ∣ u in
          h.none t p below (subst U er (dvd-mul_right_of_dvd t r factor));
      two = h.two;
    }

-- at the end the turn divides every other
pub reducing_done : (v : List Bool) (turn rest factor : ℕ) → Reducing v turn rest factor → rest ≤ 1 → 0 < turn → (d : ℕ) → Repeats (bit_at (turning v)) 0 d → turn ∣ d
reducing_done v turn rest factor h one some d again =
    let found = repeats_gcd (bit_at (turning v)) 0 turn d h.repeats again in
    let g : ℕ = found.0 in
    let some_g : 0 < g = pos_of_dvd_of_pos found.1.0 some in
    let few : turn / g ≤ rest = le_of_dvd h.some_rest (h.left g some_g found.1.0 found.2) in
    let whole : turn / g * g ≡ turn = div-mul_cancel g found.1.0 in
    let small : turn / g * g ≤ 1 * g = mul-le-mul_right g (let le : turn / g ≤ 1 = omega arith in le) in
    let within : g ≤ turn = le_of_dvd some found.1.0 in
    let same : g ≡ turn = omega arith in
    let P : ℕ → Type 0 = λ u. u ∣ d in
    subst P same found.1.1

pub bit_at-turning : (v : List Bool) (i : ℕ) → i < length v → bit_at (turning v) (i + 1) ≡ get_or v i false
bit_at-turning v i h =
    bit_at-period (turning v) (i + 1) (omega arith) ∙ ap (λ n. get_or v (n % length v) false) (let e : i + 1 - 0 - 1 ≡ i = omega arith in e)
    ∙ ap (λ n. get_or v n false) (mod-eq_of_lt h)

-- going back by whole distances
back : (v : List Bool) (d x k : ℕ) → ((i : ℕ) → i + d < length v → get_or v (i + d) false ≡ get_or v i false) → x + k * d < length v → get_or v (x + k * d) false ≡ get_or v x false
back v d x zero same h = ap (λ n. get_or v n false) (omega arith)
back v d x (suc k) same h =
    ap (λ n. get_or v n false) (let e : x + suc k * d ≡ x + k * d + d = omega arith in e) ∙ same (x + k * d) (omega arith) ∙ back v d x k same (omega arith)

-- a distance that divides the period's length, after which its bits come again within it
pub repeats_within : (v : List Bool) (d : ℕ) → 0 < d → 0 < length v → d ∣ length v → ((i : ℕ) → i + d < length v → get_or v (i + d) false ≡ get_or v i false) →
    Repeats (bit_at (turning v)) 0 d
repeats_within v d some some_v divides same i over =
    let n : ℕ = length v in
    let r : ℕ = (i - 1) % n in
    let q : ℕ = (i - 1) / n in
    let parts : n * q + r ≡ i - 1 = div-add-mod (i - 1) n in
    let below : r < n = mod-lt (i - 1) some_v in
    let le : d ≤ n = le_of_dvd some_v divides in
    let here : bit_at (turning v) i ≡ get_or v r false =
    bit_at-period (turning v) i over ∙ ap (λ m. get_or v (m % n) false) (let e : i - 0 - 1 ≡ i - 1 = omega arith in e) in
    let there : bit_at (turning v) (i + d) ≡ get_or v ((r + d) % n) false =
    bit_at-period (turning v) (i + d) (omega arith)
    ∙ ap (λ m. get_or v m false) (ap (λ m. m % n) (let e : i + d - 0 - 1 ≡ r + d + n * q = omega arith in e) ∙ add-mul-mod_self_left (r + d) n q) in
    elim (cases_lt (r + d) n) [
      | inl within ↦ there ∙ ap (λ m. get_or v m false) (mod-eq_of_lt within) ∙ same r within ∙ sym here
      | inr past ↦
          let x : ℕ = r + d - n in
          let wrap : (r + d) % n ≡ x = ap (λ m. m % n) (let e : r + d ≡ x + n = omega arith in e) ∙ add-mod_right x n ∙ mod-eq_of_lt (omega arith) in
          let m : ℕ = n / d in
          let whole : m * d ≡ n = div-mul_cancel d divides in
          let some_m : 0 < m = pos_of_dvd_of_pos (quotient_divides d n divides) some_v in
          let far : r ≡ x + (m - 1) * d = (let e : m * d ≡ (m - 1) * d + d = (let f : m ≡ m - 1 + 1 = omega arith in ap (λ u. u * d) f ∙ omega arith) in omega arith) in
          there ∙ ap (λ u. get_or v u false) wrap ∙ sym (back v d x (m - 1) same (omega arith)) ∙ ap (λ u. get_or v u false) (sym far) ∙ sym here
    ]

-- and within the period they then come again
pub within_repeats : (v : List Bool) (d i : ℕ) → Repeats (bit_at (turning v)) 0 d → i + d < length v → get_or v (i + d) false ≡ get_or v i false
within_repeats v d i again h =
    sym (bit_at-turning v (i + d) h) ∙ ap (bit_at (turning v)) (let e : i + d + 1 ≡ i + 1 + d = omega arith in e) ∙ again (i + 1) (omega arith)
    ∙ bit_at-turning v i (omega arith)

-- the turn without a factor of the rest is a distance to be looked at
pub part_of_turn : (v : List Bool) (turn rest factor : ℕ) → Reducing v turn rest factor → rest % factor ≡ 0 → turn / factor ∣ turn
part_of_turn v turn rest factor h even = quotient_divides factor turn (dvd_trans factor (dvd_of_mod-eq-zero factor even) h.rest_divides)

pub part_divides : (v : List Bool) (turn rest factor : ℕ) → Reducing v turn rest factor → rest % factor ≡ 0 → turn / factor ∣ length v
part_divides v turn rest factor h even = dvd_trans (turn / factor) (part_of_turn v turn rest factor h even) h.whole

-- the same of the first turn of a period
pub repeats_cut : (v : List Bool) (turn d : ℕ) → turn ≤ length v → 0 < turn → 0 < d → d ∣ turn → ((i : ℕ) → i + d < turn → get_or v (i + d) false ≡ get_or v i false) →
    Repeats (bit_at (turning (take turn v))) 0 d
repeats_cut v turn d within some_turn some whole same =
    let size : length (take turn v) ≡ turn = omega (arith, length-take turn v) in
    let P : ℕ → Type 0 = λ n. d ∣ n in
    repeats_within (take turn v) d some (omega arith) (subst P (sym size) whole) (λ i h.
    get_or-take turn v (i + d) false (omega arith) ∙ same i (omega arith) ∙ sym (get_or-take turn v i false (omega arith)))

pub cut_repeats : (v : List Bool) (turn d i : ℕ) → turn ≤ length v → Repeats (bit_at (turning (take turn v))) 0 d → i + d < turn → get_or v (i + d) false ≡ get_or v i false
cut_repeats v turn d i within again h =
    sym (get_or-take turn v (i + d) false h) ∙ within_repeats (take turn v) d i again (omega (arith, length-take turn v)) ∙ get_or-take turn v i false (omega arith)
