use Rattle.std.proofs.Common.{◌≡◌, ℕ, ◌+◌, ◌*◌, ◌/◌, ◌%◌, ◌<◌, ◌≤◌, zero, suc, inl, inr, sym, ap, ◌∙◌, subst, refl, arith}
use Prim.Native.Nat.{◌∣◌}
use Rattle.std.specs.Int.{IsGcd}
use Rattle.std.proofs.Math.Nat.{le_of_dvd, eq_of_mul-eq-mul_right, dvd-mul_left, dvd-mul_right, mul-dvd-mul_right, dvd_of_mul-dvd-mul_right, div-mul_cancel, mul-le-mul_right}
use Rattle.std.proofs.lemmas.Nat.{mod-mul-add, mul-le}
use Rattle.std.proofs.lemmas.Nat.Gcd.{dvd_trans, IsGcd-from_zero, IsGcd-from_mod, IsGcd-swap, same_from_IsGcd}
use Rattle.std.proofs.lemmas.Bool.{cases_lt}
use Rattle.lucy_rates.specs.Gauss.{TimesLaw}

mod_scale : (a b c : ℕ) → 0 < b → (a * c) % (b * c) ≡ a % b * c
mod_scale a b zero h = let e : a * zero ≡ 0 = omega arith in let f : b * zero ≡ 0 = omega arith in let g : (a * zero) % (b * zero) ≡ 0 % 0 = ap (λ x. x % (b * zero)) e ∙ ap (λ y. 0 % y) f in let k : 0 % 0 ≡ 0 = refl in omega arith
mod_scale a b (suc c) h =
    let e : a / b * b + a % b ≡ a = omega arith in
    let f : a * suc c ≡ a / b * (b * suc c) + a % b * suc c = ap (λ x. x * suc c) (sym e) ∙ omega arith in
    let lt : a % b < b = omega arith in
    let g' : (a % b + 1) * suc c ≤ b * suc c = mul-le-mul_right (suc c) (let y : a % b + 1 ≤ b = omega arith in y) in
    let g : a % b * suc c < b * suc c = omega arith in
    ap (λ x. x % (b * suc c)) f ∙ mod-mul-add (a / b) (b * suc c) (a % b * suc c) g

scaled : (n a b : ℕ) → b ≤ n → (g : ℕ) × IsGcd a b g × ((c : ℕ) → IsGcd (a * c) (b * c) (g * c))
scaled n a zero h = (a, IsGcd-from_zero a zero refl, λ c. IsGcd-from_zero (a * c) (zero * c) (omega arith))
scaled zero a (suc b) h = absurd (omega arith)
scaled (suc n) a (suc b) h =
    let r = scaled n (suc b) (a % suc b) (omega arith) in (
      r.0,
      IsGcd-from_mod a (suc b) r.0 r.1,
      λ c. IsGcd-from_mod (a * c) (suc b * c) (r.0 * c)
          (subst (λ (x : ℕ). IsGcd (suc b * c) x (r.0 * c)) (sym (mod_scale a (suc b) c (omega arith))) (r.2 c)),
    )

pub gcd_scaled : (a b g c : ℕ) → IsGcd a b g → IsGcd (a * c) (b * c) (g * c)
gcd_scaled a b g c h =
    let r = scaled b a b (omega arith) in
    subst (λ (x : ℕ). IsGcd (a * c) (b * c) (x * c)) (same_from_IsGcd a b r.0 g r.1 h) (r.2 c)

pub gauss : (x y z : ℕ) → IsGcd x y 1 → x ∣ (y * z) → x ∣ z
gauss x y z h d =
    let r = gcd_scaled x y 1 z h in
    subst (λ (m : ℕ). x ∣ m) (omega arith) (r.2 x (dvd-mul_right x z) d)

only : (r g : ℕ) → 0 < g → r * g ≡ g → r ≡ 1
only zero g h e = absurd (omega arith)
only (suc zero) g h e = omega arith
only (suc (suc r)) g h e = let a : g + g + r * g ≡ g = omega arith in absurd (omega arith)

-- the parts of two numbers by their greatest common divisor
pub apart : (a b g : ℕ) → IsGcd a b g → 0 < g → IsGcd (a / g) (b / g) 1
apart a b g h some =
    let ea : a / g * g ≡ a = div-mul_cancel g h.0 in
    let eb : b / g * g ≡ b = div-mul_cancel g h.1 in
    let r = scaled (b / g) (a / g) (b / g) (omega arith) in
    let s : IsGcd a b (r.0 * g) = subst (λ (x : ℕ). IsGcd x b (r.0 * g)) ea (subst (λ (y : ℕ). IsGcd (a / g * g) y (r.0 * g)) eb (r.2 g)) in
    let e : r.0 * g ≡ g = same_from_IsGcd a b (r.0 * g) g s h in
    let one : r.0 ≡ 1 = only r.0 g some e in
    subst (λ (x : ℕ). IsGcd (a / g) (b / g) x) one r.1

pub times_law : TimesLaw
times_law a b len g t h pb pl k some =
    let el : len * b / g * g ≡ len * b = div-mul_cancel g k.0 in
    let ea : a / g * g ≡ a = div-mul_cancel g k.1 in
    let co : IsGcd (len * b / g) (a / g) 1 = apart (len * b) a g k some in
    let f : t * a ≡ a / g * t * g = let x : t * (a / g * g) ≡ t * a = ap (λ y. t * y) ea in omega arith in (
      λ d. let e : (len * b / g * g) ∣ (a / g * t * g) = subst (λ (x : ℕ). x ∣ (a / g * t * g)) (sym el) (subst (λ (x : ℕ). (len * b) ∣ x) f d) in
          gauss (len * b / g) (a / g) t co (dvd_of_mul-dvd-mul_right (len * b / g) some e),
      λ d. let e : (len * b / g) ∣ (a / g * t) = dvd_trans (len * b / g) d (dvd-mul_left t (a / g)) in
          subst (λ (x : ℕ). (len * b) ∣ x) (sym f) (subst (λ (x : ℕ). x ∣ (a / g * t * g)) el (mul-dvd-mul_right (len * b / g) e g)),
    )

pub quotient_some : (a g : ℕ) → g ∣ a → 0 < a → 0 < a / g
quotient_some a g d some =
    let e : a / g * g ≡ a = div-mul_cancel g d in
    elim (cases_lt 0 (a / g)) [ inl m ↦ m | inr m ↦ absurd (let z : a / g * g ≡ 0 * g = ap (λ n. n * g) (let y : a / g ≡ 0 = omega arith in y) in omega arith) ]

pub reduced_same : (a b g : ℕ) → IsGcd a b g → a / g * b ≡ a * (b / g)
reduced_same a b g h =
    let ea : a / g * g ≡ a = div-mul_cancel g h.0 in
    let eb : b / g * g ≡ b = div-mul_cancel g h.1 in
    let x : a / g * (b / g * g) ≡ a / g * b = ap (λ n. a / g * n) eb in
    let y : a / g * g * (b / g) ≡ a * (b / g) = ap (λ n. n * (b / g)) ea in
    omega arith

-- fractions in lowest terms are one where their cross products are
pub lowest_one : (a b c d : ℕ) → 0 < b → 0 < d → IsGcd a b 1 → IsGcd c d 1 → a * d ≡ c * b → (a ≡ c) × (b ≡ d)
lowest_one a b c d some some' h k e =
    let x : b ∣ d = gauss b a d (IsGcd-swap a b 1 h) (let P : ℕ → Type 0 = λ z. b ∣ z in subst P (sym e) (dvd-mul_left b c)) in
    let y : d ∣ b = gauss d c b (IsGcd-swap c d 1 k) (let P : ℕ → Type 0 = λ z. d ∣ z in subst P e (dvd-mul_left d a)) in
    let l = le_of_dvd some' x in
    let m = le_of_dvd some y in
    let same : b ≡ d = omega arith in
    let f : a * b ≡ c * b = ap (λ z. a * z) same ∙ e in
    (eq_of_mul-eq-mul_right b some a c f, same)

pub even_to : (n1 d1 n2 d2 o u f g : ℕ) → f * (d1 * u) ≡ n1 * o * g → f ≡ n2 → g ≡ d2 → n1 * d2 * o ≡ n2 * d1 * u
even_to n1 d1 n2 d2 o u f g e a b =
    let x : f * (d1 * u) ≡ n2 * (d1 * u) = ap (λ z. z * (d1 * u)) a in
    let y : n1 * o * g ≡ n1 * o * d2 = ap (λ z. n1 * o * z) b in
    omega arith

pub even_from : (n1 d1 n2 d2 o u f g : ℕ) → 0 < d1 → 0 < u → 0 < g → 0 < d2 → IsGcd f g 1 → IsGcd n2 d2 1 → f * (d1 * u) ≡ n1 * o * g → n1 * d2 * o ≡ n2 * d1 * u → (f ≡ n2) × (g ≡ d2)
even_from n1 d1 n2 d2 o u f g some1 some2 some3 some4 h k e even =
    let x : f * (d1 * u) * d2 ≡ n1 * o * g * d2 = ap (λ z. z * d2) e in
    let y : n1 * d2 * o * g ≡ n2 * d1 * u * g = ap (λ z. z * g) even in
    let z : f * d2 * (d1 * u) ≡ n2 * g * (d1 * u) = omega arith in
    let some : 0 < d1 * u = (let p : 1 * 1 ≤ d1 * u = mul-le 1 1 d1 u some1 some2 in omega arith) in
    lowest_one f g n2 d2 some3 some4 h k (eq_of_mul-eq-mul_right (d1 * u) some (f * d2) (n2 * g) z)
