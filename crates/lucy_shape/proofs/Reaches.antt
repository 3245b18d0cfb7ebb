-- How far the positions of instances reach.
use Rattle.std.proofs.Common.{List, ◌≡◌, ℕ, zero, suc, ◌+◌, ◌-◌, ◌*◌, ◌/◌, ◌^◌, ◌<◌, ◌≤◌, length, inl, inr, ap, refl, arith}
use Prim.Native.Nat.{◌∣◌}
use Rattle.std.proofs.lemmas.Bool.{cases_lt}
use Rattle.std.proofs.lemmas.Nat.{mul-le}
use Rattle.std.proofs.Math.Nat.{div-mul_cancel, div-add-mod}
use Rattle.lucy_word.specs.Bits.{Bits, ones_to, ones_in, IsWord}
use Rattle.lucy_word.proofs.IndexLaws.{ones_to-periods}
use Rattle.lucy_solve.specs.System.{most_inequalities, most_constant}
use Rattle.lucy_shape.specs.declared.shape.ClockShape.{ClockShape}
use Rattle.lucy_shape.proofs.WordIndex.{word_index}
use Rattle.lucy_shape.specs.Rows.{turns_of}
use Rattle.lucy_need.specs.declared.need.Need.{Need}
use Rattle.lucy_need.specs.declared.need.Need.TheVariants.{Equal, Adapt}
use Rattle.lucy_shape.specs.Fitting.{clock_at, most_positions}
use Rattle.lucy_shape.specs.Added.{IsNeedSpreadable, IsSpreadable}
use Rattle.lucy_shape.specs.Index.{index_of}

pub index_most : (u : Bits) (p q k : ℕ) → IsWord u → length u.prefix ≤ p → 0 < q → length u.period ∣ q → index_of u k ≤ p + k * q
index_most u p q k word past some whole =
    let l = length u.period in
    let t = q / l in
    let e : t * l ≡ q = div-mul_cancel l whole in
    let positive : 0 < t = elim (cases_lt 0 t) [ inl m ↦ m | inr m ↦ absurd (let z : t * l ≡ 0 * l = ap (λ n. n * l) (let y : t ≡ 0 = omega arith in y) in omega arith) ] in
    let turns = ones_to-periods u p (k * t) past in
    let far : k * t * l ≡ k * q = (let z : k * (t * l) ≡ k * q = ap (λ n. k * n) e in omega arith) in
    let enough : k * 1 ≤ k * (t * ones_in u.period) = mul-le k 1 k (t * ones_in u.period) (omega arith) (let z : 1 * 1 ≤ t * ones_in u.period = mul-le 1 1 t (ones_in u.period) positive word.has_one in omega arith) in
    let i : ones_to u (p + k * t * l) ≡ ones_to u (p + k * q) = ap (λ n. ones_to u (p + n)) far in
    (word_index u word).first k (p + k * q) (omega arith)

pub fold_most : (m n q M k P : ℕ) → 0 < q → m ≤ M + k * q → (m - n - 1) / q * P ≤ (M + k) * P
fold_most m n q M k P some h =
    let f = (m - n - 1) / q in
    let e = div-add-mod (m - n - 1) q in
    let b : f * q ≤ M + k * q = omega arith in
    let less : f ≤ M + k = elim (cases_lt (M + k) f) [
      | inr l ↦ l
      | inl l ↦ absurd (let a : (M + k + 1) * q ≤ f * q = mul-le (M + k + 1) q f q (omega arith) (omega arith) in let c : M * 1 ≤ M * q = mul-le M 1 M q (omega arith) some in omega arith)
    ] in
    mul-le f P (M + k) P less (omega arith)

pub position_fits : (c : ClockShape) (u : Bits) (k : ℕ) → IsSpreadable (1 + most_positions) c u → k ≤ 1 + most_inequalities → index_of u k < 2 ^ 64
position_fits c u k is few =
    let a = index_most u (length u.prefix) c.ones k is.word (omega arith) is.placed.some is.whole in
    let b = is.placed.within in
    let s = is.short in
    let d : k * c.ones ≤ 1048577 * 65537 = mul-le k c.ones 1048577 65537 few (omega arith) in
    omega arith

pub fold_fits : (c : ClockShape) (u : Bits) (k P : ℕ) → IsSpreadable (1 + most_positions) c u → k ≤ 1 + most_inequalities → P ≤ most_positions → turns_of c (index_of u k) * P < most_constant
fold_fits c u k P is few short =
    let a = index_most u (length u.prefix) c.ones k is.word (omega arith) is.placed.some is.whole in
    let s = is.short in
    let b = fold_most (index_of u k) c.lead c.ones (length u.prefix) k P is.placed.some a in
    let d : (length u.prefix + k) * P ≤ 2097153 * 65536 = mul-le (length u.prefix + k) P 2097153 65536 (omega arith) short in
    omega arith

pub spreadable_wide : (n : ℕ) (c : ClockShape) (u : Bits) → n ≤ 1 + most_positions → IsSpreadable n c u → IsSpreadable (1 + most_positions) c u
spreadable_wide n c u l is = record { placed = record { some = is.placed.some; first = is.placed.first; within = (let a = is.placed.within in omega arith) }; word = is.word; short = is.short; whole = is.whole }

pub turn_fits : (q r l : ℕ) → r ≤ l → q * r / l ≤ q
turn_fits q r zero h = (let z : q * r ≡ q * 0 = ap (λ n. q * n) (let e : r ≡ 0 = omega arith in e) in let d : q * r / 0 ≡ 0 / 0 = ap (λ n. n / 0) (let e : q * r ≡ 0 = omega arith in e) in let w : 0 / 0 ≡ 0 = refl in omega arith)
turn_fits q r (suc l) h =
    let e = div-add-mod (q * r) (suc l) in
    elim (cases_lt q (q * r / suc l)) [
      | inr m ↦ m
      | inl m ↦ absurd (let a : (q + 1) * suc l ≤ q * r / suc l * suc l = mul-le (q + 1) (suc l) (q * r / suc l) (suc l) (omega arith) (omega arith) in
          let b : q * r ≤ q * suc l = mul-le q r q (suc l) (omega arith) h in omega arith)
    ]

-- and so of the terms of a need
pub need_wide : (n : ℕ) (clocks : List ClockShape) (need : Need) → n ≤ 1 + most_positions → IsNeedSpreadable n clocks need → IsNeedSpreadable (1 + most_positions) clocks need
need_wide n clocks (Equal s t) l is = (is.0, is.1, spreadable_wide n (clock_at clocks s.clock) s.word l is.2, spreadable_wide n (clock_at clocks t.clock) t.word l is.3)
need_wide n clocks (Adapt s t) l is = (is.0, is.1, spreadable_wide n (clock_at clocks s.clock) s.word l is.2, spreadable_wide n (clock_at clocks t.clock) t.word l is.3)
