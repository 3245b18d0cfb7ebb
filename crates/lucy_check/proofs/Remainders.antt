-- The remainder theorem for two lengths.
use Rattle.std.proofs.Common.{ℕ, suc, zero, ◌+◌, ◌-◌, ◌*◌, ◌%◌, ◌/◌, ◌<◌, ◌≤◌, ◌≡◌, ap, sym, ◌∙◌, subst, inl, inr, arith}
use Rattle.std.proofs.Math.Nat.{div-mul_cancel, mul-div_cancel_left, div-add-mod, mod-lt, pos_of_dvd_of_pos, dvd-mul_left, mul-le-mul_right, le_of_mul-le-mul_right}
use Rattle.std.proofs.lemmas.Nat.Gcd.{IsGcd-from_zero, IsGcd-from_mod, same_from_IsGcd}
use Rattle.std.proofs.lemmas.Nat.{same_from_place, mul-le}
use Rattle.std.proofs.lemmas.Bool.{cases_eq, cases_lt}
use Rattle.std.specs.Int.{IsGcd}
use Rattle.lucy_word.specs.Multiple.{IsLcm}
use Rattle.lucy_word.proofs.Multiples.{divides}

-- some number of a are one number more than some number of b
pub record ComesTo (a b more : ℕ) : Type 0 where
  pub of_a : ℕ
  pub of_b : ℕ
  pub same : of_a * a ≡ more + of_b * b

-- one step of Euclid's remainders
step_first : (a b g : ℕ) → ComesTo (a % b) b g → ComesTo a b g
step_first a b g c = record {
  of_a = c.of_a;
  of_b = c.of_b + c.of_a * (a / b);
  same =
      let parts : b * (a / b) + a % b ≡ a = div-add-mod a b in
      let turned : c.of_a * (b * (a / b) + a % b) ≡ c.of_a * a = ap (λ n. c.of_a * n) parts in
      omega (arith, c.same);
}

step_second : (a b g : ℕ) → ComesTo b (a % b) g → ComesTo b a g
step_second a b g c = record {
  of_a = c.of_a + c.of_b * (a / b);
  of_b = c.of_b;
  same =
      let parts : b * (a / b) + a % b ≡ a = div-add-mod a b in
      let turned : c.of_b * (b * (a / b) + a % b) ≡ c.of_b * a = ap (λ n. c.of_b * n) parts in
      omega (arith, c.same);
}

-- each of two lengths comes to the other and their greatest common divisor
pub record Comes (a b : ℕ) : Type 0 where
  pub divisor : ℕ
  pub is : IsGcd a b divisor
  pub first : ComesTo a b divisor
  pub second : ComesTo b a divisor

comes : (fuel a b : ℕ) → b < fuel → 0 < a → 0 < b → Comes a b
comes zero a b h some_a some_b = absurd (omega arith)
comes (suc fuel) a b h some_a some_b =
    elim (cases_eq (a % b) 0) [
      | inl even ↦
          let q : ℕ = a / b in
          let parts : b * q + a % b ≡ a = div-add-mod a b in
          let some_q : 0 < q =
          elim (cases_eq q 0) [ inl none ↦ absurd (let e : b * q ≡ b * 0 = ap (λ n. b * n) none in omega arith) | inr some ↦ omega arith ] in
          let turned : b * q ≡ b * (q - 1 + 1) = ap (λ n. b * n) (omega arith) in
          record {
            divisor = b;
            is = IsGcd-from_mod a b b (IsGcd-from_zero b (a % b) even);
            first = record { of_a = 1; of_b = q - 1; same = omega arith };
            second = record { of_a = 1; of_b = 0; same = omega arith };
          }
      | inr n ↦
          let c = comes fuel b (a % b) (let less : a % b < b = mod-lt a some_b in omega arith) some_b (omega arith) in
          record {
            divisor = c.divisor;
            is = IsGcd-from_mod a b c.divisor c.is;
            first = step_first a b c.divisor c.second;
            second = step_second a b c.divisor c.first;
          }
    ]

-- p and so many of a are q and so many of b
pub record Meets (a b p q : ℕ) : Type 0 where
  pub of_a : ℕ
  pub of_b : ℕ
  pub same : p + of_a * a ≡ q + of_b * b

meets_up : (a b g p q k : ℕ) → ComesTo a b g → q ≡ p + g * k → Meets a b p q
meets_up a b g p q k c e = record {
  of_a = k * c.of_a;
  of_b = k * c.of_b;
  same = (let turned : k * (c.of_a * a) ≡ k * (g + c.of_b * b) = ap (λ n. k * n) c.same in omega arith);
}

meets_down : (a b g p q k : ℕ) → ComesTo b a g → p ≡ q + g * k → Meets a b p q
meets_down a b g p q k c e = record {
  of_a = k * c.of_b;
  of_b = k * c.of_a;
  same = (let turned : k * (c.of_a * b) ≡ k * (g + c.of_b * a) = ap (λ n. k * n) c.same in omega arith);
}

meets_by : (a b p q : ℕ) (c : Comes a b) → p % c.divisor ≡ q % c.divisor → Meets a b p q
meets_by a b p q c agree =
    let g : ℕ = c.divisor in
    let parts_p : g * (p / g) + p % g ≡ p = div-add-mod p g in
    let parts_q : g * (q / g) + q % g ≡ q = div-add-mod q g in
    elim (cases_lt (p / g) (q / g)) [
      | inl up ↦
          let turned : g * (q / g) ≡ g * (p / g + (q / g - p / g)) = ap (λ n. g * n) (omega arith) in
          meets_up a b g p q (q / g - p / g) c.first (omega arith)
      | inr down ↦
          let turned : g * (p / g) ≡ g * (q / g + (p / g - q / g)) = ap (λ n. g * n) (omega arith) in
          meets_down a b g p q (p / g - q / g) c.second (omega arith)
    ]

-- the remainder theorem: places that agree modulo the greatest common divisor of two lengths come together
pub meet : (a b g p q : ℕ) → 0 < a → 0 < b → IsGcd a b g → p % g ≡ q % g → Meets a b p q
meet a b g p q some_a some_b is agree =
    let c = comes (b + 1) a b (omega arith) some_a some_b in
    let e : g ≡ c.divisor = same_from_IsGcd a b g c.divisor is c.is in
    let P : ℕ → Type 0 = λ d. p % d ≡ q % d in
    meets_by a b p q c (subst P e agree)

-- and only there: numbers that are the same but for turns, and less than a turn, are the same
pub same_place : (d p q m n : ℕ) → p < d → q < d → p + m * d ≡ q + n * d → p ≡ q
same_place d p q m n less_p less_q e = (same_from_place m p n q d less_p less_q (omega arith)).1

-- no multiple of b below that by a's part in the greatest common divisor is one of a
least_part : (a b g r s x : ℕ) → 0 < g → 0 < r → ComesTo a b g → r * b ≡ s * a → x * g ≡ a → x ≤ r
least_part a b g r s x some_g some_r c both whole =
    let sum : r * (c.of_a * a) ≡ r * (g + c.of_b * b) = ap (λ n. r * n) c.same in
    let turned : c.of_b * (r * b) ≡ c.of_b * (s * a) = ap (λ n. c.of_b * n) both in
    let some : 1 * 1 ≤ r * g = mul-le 1 1 r g some_r some_g in
    elim (cases_lt (c.of_b * s) (r * c.of_a)) [
      | inl less ↦
          let f : (c.of_b * s + 1) * a ≤ r * c.of_a * a = mul-le-mul_right a (let e : c.of_b * s + 1 ≤ r * c.of_a = omega arith in e) in
          le_of_mul-le-mul_right (let e : x * g ≤ r * g = omega arith in e) some_g
      | inr more ↦ absurd (let f : r * c.of_a * a ≤ c.of_b * s * a = mul-le-mul_right a more in omega arith)
    ]

gcd_by : (a b l : ℕ) → 0 < a → 0 < b → IsLcm a b l → Comes a b → IsGcd a b (a / (l / b))
gcd_by a b l some_a some_b is c =
    let g : ℕ = c.divisor in
    let x : ℕ = a / g in
    let y : ℕ = b / g in
    let r : ℕ = l / b in
    let whole_a : x * g ≡ a = div-mul_cancel g c.is.0 in
    let whole_b : y * g ≡ b = div-mul_cancel g c.is.1 in
    let by_a : l / a * a ≡ l = div-mul_cancel a is.of_left in
    let by_b : r * b ≡ l = div-mul_cancel b is.of_right in
    let some_g : 0 < g = pos_of_dvd_of_pos c.is.0 some_a in
    let some_x : 0 < x = pos_of_dvd_of_pos (divides x g a (omega arith)) some_a in
    let some_r : 0 < r = pos_of_dvd_of_pos (divides r b l (omega arith)) is.positive in
    let low : x ≤ r = least_part a b g r (l / a) x some_g some_r c.first (omega arith) whole_a in
    let common : x * b ≡ y * a = (let e : x * (y * g) ≡ x * b = ap (λ n. x * n) whole_b in let f : y * (x * g) ≡ y * a = ap (λ n. y * n) whole_a in omega arith) in
    let some_m : 0 < x * b = omega (arith, mul-le 1 1 x b some_x some_b) in
    let high : r ≤ x = le_of_mul-le-mul_right (let e : r * b ≤ x * b = omega (arith, is.least (x * b) some_m (divides a y (x * b) common) (dvd-mul_left b x)) in e) some_b in
    let split : a ≡ r * g = sym whole_a ∙ ap (λ n. n * g) (let e : x ≡ r = omega arith in e) in
    let P : ℕ → Type 0 = λ d. IsGcd a b d in
    subst P (sym (ap (λ n. n / r) split ∙ mul-div_cancel_left g some_r)) c.is

-- the greatest common divisor from the least common multiple
pub gcd_by_lcm : (a b l : ℕ) → 0 < a → 0 < b → IsLcm a b l → IsGcd a b (a / (l / b))
gcd_by_lcm a b l some_a some_b is = gcd_by a b l some_a some_b is (comes (b + 1) a b (omega arith) some_a some_b)
