-- Shifts to the left as products.
use Rattle.std.proofs.Common.{ℕ, ℤ, pos, ◌*ℤ◌, ◌*◌, ◌%◌, ◌^◌, ◌<◌, ◌≡◌, FitsSigned, to_z, of_z, w64, ap, ◌∙◌, arith}
use Rattle.std.specs.Int.{int_wrap, int_shl}
use Rattle.std.proofs.lemmas.Int.{SFits-int_wrap, wrapping_mul_is, int_wrap-mul_right}
use Rattle.lucy_host.specs.Numbers.{wrapped}

-- one shifted to the left is a power of two
power_is : (n : ℕ) → n < 64 → int_shl w64 (pos 1) (n % 64) ≡ wrapped (pos (2 ^ n))
unfolding int_wrap
power_is n l =
    let e : n % 64 ≡ n = omega (arith, l) in
    let f : 1 * 2 ^ (n % 64) ≡ 2 ^ n = ap (λ k. 1 * 2 ^ k) e ∙ omega arith in
    ap (λ m. to_z w64 (m % 2 ^ 64)) f

-- a product with it
pub times_power : (a r : ℤ) (n : ℕ) → n < 64 → FitsSigned w64 a → r ≡ int_shl w64 (pos 1) (n % 64) →
    to_z w64 ((of_z w64 a * of_z w64 r) % 2 ^ 64) ≡ wrapped (a *ℤ pos (2 ^ n))
times_power a r n l f e =
    let is : r ≡ wrapped (pos (2 ^ n)) = e ∙ power_is n l in
    ap (λ x. to_z w64 ((of_z w64 a * of_z w64 x) % 2 ^ 64)) is
    ∙ wrapping_mul_is w64 a (wrapped (pos (2 ^ n))) f (SFits-int_wrap w64 (pos (2 ^ n)))
    ∙ int_wrap-mul_right w64 a (pos (2 ^ n))
