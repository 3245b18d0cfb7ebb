-- The least common multiple, from the greatest common divisor, and what divides a product.
use Rattle.std.proofs.Common.{ℕ, suc, zero, ◌+◌, ◌*◌, ◌%◌, ◌/◌, ◌<◌, ◌≤◌, ◌≡◌, ap, sym, ◌∙◌, subst, inl, inr, lit<, arith}
use Rattle.std.proofs.Math.Nat.{div-mul_cancel, eq_of_mul-eq-mul_right, dvd_refl, dvd-mul_left, dvd-mul_right, dvd-mul_right_of_dvd, dvd_of_mul-dvd-mul_right, le_of_dvd, mod-lt, pos_of_dvd_of_pos, mul-le-mul_right}
use Rattle.std.proofs.lemmas.Nat.{mul-le}
use Rattle.std.proofs.lemmas.Nat.Gcd.{IsGcd-from_zero, IsGcd-from_mod}
use Rattle.std.proofs.lemmas.Bool.{cases_eq, cases_lt}
use Prim.Native.Nat.{◌∣◌}
use Rattle.std.specs.Int.{IsGcd}
use Rattle.lucy_word.specs.Multiple.{IsLcm}

-- two numbers have a greatest common divisor
pub gcd_exists : (fuel a b : ℕ) → b < fuel → (g : ℕ) × IsGcd a b g
gcd_exists zero a b h = absurd (omega arith)
gcd_exists (suc fuel) a b h =
    elim (cases_eq b 0) [
      | inl e ↦ (a, IsGcd-from_zero a b e)
      | inr n ↦
          let found = gcd_exists fuel b (a % b) ((let less : a % b < b = mod-lt a (omega arith) in omega arith)) in
          (found.0, IsGcd-from_mod a b found.0 found.1)
    ]

-- a multiple is divided by its factor
pub divides : (d k n : ℕ) → n ≡ k * d → d ∣ n
divides d k n e = let P : ℕ → Type 0 = λ u. d ∣ u in subst P (sym e) (dvd-mul_left d k)

-- a factor by which the product of two numbers is a common multiple, `q * h * g ≡ a * b`, divides them with g
one_side : (a b g q h k : ℕ) → 0 < b → h ≡ k * b → q * h * g ≡ a * b → q * g ∣ a
one_side a b g q h k some e product =
    let s : k * (q * g) * b ≡ a * b = (let t : q * h * g ≡ q * (k * b) * g = ap (λ u. q * u * g) e in omega arith) in
    divides (q * g) k a (sym (eq_of_mul-eq-mul_right b some (k * (q * g)) a s))

-- the product by a common multiple's greatest common divisor is no less than the least
at_least : (a b g m h : ℕ) → 0 < a → 0 < b → 0 < g → IsGcd a b g → m * g ≡ a * b → 0 < h → a ∣ h → b ∣ h → h ∣ m → m ≤ h
at_least a b g m h some_a some_b some_g is product some_h by_a by_b within =
    let q : ℕ = m / h in
    let whole : q * h ≡ m = div-mul_cancel h within in
    let ka : h / a * a ≡ h = div-mul_cancel a by_a in
    let kb : h / b * b ≡ h = div-mul_cancel b by_b in
    let p : q * h * g ≡ a * b = ap (λ u. u * g) whole ∙ product in
    let r : q * h * g ≡ b * a = omega arith in
    let da : q * g ∣ a = one_side a b g q h (h / b) some_b (sym kb) p in
    let db : q * g ∣ b = one_side b a g q h (h / a) some_a (sym ka) r in
    let small : q * g ≤ g = le_of_dvd some_g (is.2 (q * g) da db) in
    elim (cases_lt 1 q) [
      | inl two ↦ absurd (let more : 2 * g ≤ q * g = mul-le-mul_right g two in omega arith)
      | inr one ↦ (let more : q * h ≤ 1 * h = mul-le-mul_right h one in omega arith)
    ]

pub lcm_by_gcd : (a b g : ℕ) → 0 < a → 0 < b → IsGcd a b g → IsLcm a b (a / g * b)
lcm_by_gcd a b g some_a some_b is =
    let m : ℕ = a / g * b in
    let ea : a / g * g ≡ a = div-mul_cancel g is.0 in
    let eb : b / g * g ≡ b = div-mul_cancel g is.1 in
    let some_g : 0 < g = pos_of_dvd_of_pos is.0 some_a in
    let product : m * g ≡ a * b = (let t : a / g * g * b ≡ a * b = ap (λ u. u * b) ea in omega arith) in
    let by_a : m ≡ b / g * a =
    (let s : a / g * b ≡ a / g * (b / g * g) = ap (λ u. a / g * u) (sym eb) in
    let t : b / g * (a / g * g) ≡ b / g * a = ap (λ u. b / g * u) ea in
    omega arith) in
    let left : a ∣ m = divides a (b / g) m by_a in
    let right : b ∣ m = dvd-mul_left b (a / g) in
    let some : 0 < m = pos_of_dvd_of_pos (dvd-mul_right m g) (omega (arith, mul-le 1 1 a b some_a some_b)) in
    record {
      of_left = left;
      of_right = right;
      positive = some;
      least = λ n some_n an bn.
          let found = gcd_exists (m + 1) n m (omega arith) in
          let h : ℕ = found.0 in
          let some_h : 0 < h = pos_of_dvd_of_pos found.1.0 some_n in
          let low : m ≤ h = at_least a b g m h some_a some_b some_g is product some_h (found.1.2 a an left) (found.1.2 b bn right) found.1.1 in
          let high : h ≤ n = le_of_dvd some_n found.1.0 in
          omega arith;
    }

-- numbers above 0 have a least common multiple
pub lcm_exists : (a b : ℕ) → 0 < a → 0 < b → (m : ℕ) × IsLcm a b m
lcm_exists a b some_a some_b =
    let found = gcd_exists (b + 1) a b (omega arith) in
    (a / found.0 * b, lcm_by_gcd a b found.0 some_a some_b found.1)

-- and only one
pub lcm_one : (a b m n : ℕ) → IsLcm a b m → IsLcm a b n → m ≡ n
lcm_one a b m n h k = omega (arith, h.least n k.positive k.of_left k.of_right, k.least m h.positive h.of_left h.of_right)

-- it divides every common multiple
pub lcm_divides : (a b m n : ℕ) → IsLcm a b m → a ∣ n → b ∣ n → m ∣ n
lcm_divides a b m n is by_a by_b =
    elim (cases_eq n 0) [
      | inl none ↦ divides m 0 n (omega arith)
      | inr some ↦
          let found = gcd_exists (m + 1) n m (omega arith) in
          let h : ℕ = found.0 in
          let some_h : 0 < h = pos_of_dvd_of_pos found.1.1 is.positive in
          let low : m ≤ h = is.least h some_h (found.1.2 a by_a is.of_left) (found.1.2 b by_b is.of_right) in
          let high : h ≤ m = le_of_dvd is.positive found.1.1 in
          let same : h ≡ m = omega arith in
          let P : ℕ → Type 0 = λ u. u ∣ n in
          subst P same found.1.0
    ]

-- what shares no factor with q and divides a product with q divides the other factor
pub coprime_divides : (q m x : ℕ) → 0 < q → 0 < x → ((t : ℕ) → t ∣ q → t ∣ m → t ≤ 1) → m ∣ q * x → m ∣ x
coprime_divides q m x some_q some_x apart divides =
    let found = gcd_exists (m * x + 1) (q * x) (m * x) (omega arith) in
    let g : ℕ = found.0 in
    let t : ℕ = g / x in
    let by_x : x ∣ g = found.1.2 x (dvd-mul_left x q) (dvd-mul_left x m) in
    let whole : t * x ≡ g = div-mul_cancel x by_x in
    let P : ℕ → Type 0 = λ n. n ∣ q * x in
    let Q : ℕ → Type 0 = λ n. n ∣ m * x in
    let of_q : t ∣ q = dvd_of_mul-dvd-mul_right t some_x (subst P (sym whole) found.1.0) in
    let of_m : t ∣ m = dvd_of_mul-dvd-mul_right t some_x (subst Q (sym whole) found.1.1) in
    let small : t ≤ 1 = apart t of_q of_m in
    let some : 0 < t = pos_of_dvd_of_pos of_q some_q in
    let one : t ≡ 1 = omega arith in
    let same : g ≡ x = sym whole ∙ ap (λ n. n * x) one ∙ omega arith in
    let R : ℕ → Type 0 = λ n. m ∣ n in
    subst R same (found.1.2 m divides (dvd-mul_right m x))

-- so what has no common divisor with a factor of a product that it divides divides the other
pub gauss : (x y z : ℕ) → IsGcd x y 1 → x ∣ y * z → x ∣ z
gauss x y z is whole =
    elim (cases_eq z 0) [
      | inl none ↦ divides x 0 z (omega arith)
      | inr some_z ↦ elim (cases_eq y 0) [
        | inr some_y ↦ coprime_divides y x z (omega arith) (omega arith) (λ t of_y of_x. le_of_dvd (lit< tt) (is.2 t of_x of_y)) whole
        | inl none ↦
            let one : x ∣ 1 = is.2 x (dvd_refl x) (divides x 0 y (omega arith)) in
            let P : ℕ → Type 0 = λ u. x ∣ u in
            subst P (let e : 1 * z ≡ z = omega arith in e) (dvd-mul_right_of_dvd x one z)
      ]
    ]
