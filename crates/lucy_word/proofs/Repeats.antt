-- Bits that come again after some instants, from some instant on.
use Rattle.std.proofs.Common.{ℕ, suc, zero, ◌+◌, ◌-◌, ◌*◌, ◌%◌, ◌/◌, ◌<◌, ◌≤◌, ◌≡◌, Bool, length, ap, sym, ◌∙◌, subst, inl, inr, arith}
use Rattle.std.proofs.Math.Nat.{mod-lt, div-add-mod, div-mul_cancel}
use Rattle.std.proofs.lemmas.Nat.{mul-le}
use Rattle.std.proofs.lemmas.Nat.Gcd.{IsGcd-from_zero, IsGcd-from_mod}
use Rattle.std.proofs.lemmas.Bool.{cases_eq}
use Prim.Native.Nat.{◌∣◌}
use Rattle.std.specs.Int.{IsGcd}
use Rattle.lucy_word.specs.Bits.{Bits, bit_at}
use Rattle.lucy_word.specs.Shortest.{Same}
use Rattle.lucy_word.specs.Turns.{Repeats}
use Rattle.lucy_word.proofs.BitsLaws.{bit_at-turn}

-- a word's bits come again after its period
pub repeats_period : (w : Bits) → Repeats (bit_at w) (length w.prefix) (length w.period)
repeats_period w i h = bit_at-turn w i h

pub repeats_same : (v w : Bits) (k p : ℕ) → Same v w → Repeats (bit_at v) k p → Repeats (bit_at w) k p
repeats_same v w k p same h i over = sym (same (i + p) (omega arith)) ∙ h i over ∙ same i (omega arith)

pub repeats_later : (f : ℕ → Bool) (k later p : ℕ) → k ≤ later → Repeats f k p → Repeats f later p
repeats_later f k later p le h i over = h i (omega arith)

-- after several turns too
pub repeats_times : (f : ℕ → Bool) (k p m : ℕ) → Repeats f k p → Repeats f k (m * p)
repeats_times f k p zero h i over = ap f (omega arith)
repeats_times f k p (suc m) h i over =
    ap f (let e : i + suc m * p ≡ i + m * p + p = omega arith in e) ∙ h (i + m * p) (omega arith) ∙ repeats_times f k p m h i over

repeats_less : (f : ℕ → Bool) (k p q : ℕ) → q ≤ p → Repeats f k p → Repeats f k q → Repeats f k (p - q)
repeats_less f k p q le h g i over =
    sym (g (i + (p - q)) (omega arith)) ∙ ap f (let e : i + (p - q) + q ≡ i + p = omega arith in e) ∙ h i over

repeats_rest : (f : ℕ → Bool) (k p q : ℕ) → Repeats f k p → Repeats f k q → Repeats f k (p % q)
repeats_rest f k p q h g i over =
    let whole : q * (p / q) + p % q ≡ p = div-add-mod p q in
    let le : p / q * q ≤ p = omega arith in
    ap (λ n. f (i + n)) (let e : p % q ≡ p - p / q * q = omega arith in e) ∙ repeats_less f k p (p / q * q) le h (repeats_times f k q (p / q) g) i over

repeats_common : (f : ℕ → Bool) (k fuel a b : ℕ) → b < fuel → Repeats f k a → Repeats f k b → (g : ℕ) × IsGcd a b g × Repeats f k g
repeats_common f k zero a b h r s = absurd (omega arith)
repeats_common f k (suc fuel) a b h r s =
    elim (cases_eq b 0) [
      | inl e ↦ (a, IsGcd-from_zero a b e, r)
      | inr n ↦
          let found = repeats_common f k fuel b (a % b) (let less : a % b < b = mod-lt a (omega arith) in omega arith) s (repeats_rest f k a b r s) in
          (found.0, IsGcd-from_mod a b found.0 found.1, found.2)
    ]

-- bits that come again after a and after b come again after their greatest common divisor
pub repeats_gcd : (f : ℕ → Bool) (k a b : ℕ) → Repeats f k a → Repeats f k b → (g : ℕ) × IsGcd a b g × Repeats f k g
repeats_gcd f k a b r s = repeats_common f k (b + 1) a b (omega arith) r s

-- what comes again later comes again from where the bits have a turn
pub repeats_earlier : (f : ℕ → Bool) (k p later d : ℕ) → 0 < p → Repeats f k p → Repeats f later d → Repeats f k d
repeats_earlier f k p later d some h g i over =
    let m : ℕ = later in
    let far : later ≤ m * p = omega (arith, mul-le m 1 m p (omega arith) some) in
    let turn : Repeats f k (m * p) = repeats_times f k p m h in
    sym (turn (i + d) (omega arith)) ∙ ap f (let e : i + d + m * p ≡ i + m * p + d = omega arith in e) ∙ g (i + m * p) (omega arith) ∙ turn i over

-- a turn that divides a distance is made several times in it
pub repeats_multiple : (f : ℕ → Bool) (k p d : ℕ) → p ∣ d → Repeats f k p → Repeats f k d
repeats_multiple f k p d divides h =
    let P : ℕ → Type 0 = λ n. Repeats f k n in
    subst P (div-mul_cancel p divides) (repeats_times f k p (d / p) h)
