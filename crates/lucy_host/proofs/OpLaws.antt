-- Laws of the operators' values.
use Rattle.std.proofs.Common.{ℤ, pos, ◌+ℤ◌, ◌-ℤ◌, ◌*ℤ◌, ◌≡◌, zero, Bool, true, false, cond, ◌&&◌, int_eq, int_div, int_rem, FitsSigned, w64, refl, sym, ap, ◌∙◌, true≢false, lit<, arith}
use Rattle.std.proofs.lemmas.Bool.Decides.{Decides-int_eq}
use Rattle.std.proofs.lemmas.Int.{ints, quot-rem, int_wrap_fits}
use Rattle.std.specs.Int.{int_wrap}
use lib.Signed.{mag_rem}
use Rattle.lucy_host.specs.Numbers.{least_number, minus_one, wrapped}
use Rattle.lucy_host.specs.OpValue.{remainder}

both : (s t : Bool) → s && t ≡ true → (s ≡ true) × (t ≡ true)
both true t e = (refl, e)
both false t e = absurd (true≢false (sym e))

neither : (s t : Bool) → s && t ≡ false → s ≡ true → t ≡ true → ⊥
neither true t e p q = true≢false (sym q ∙ e)
neither false t e p q = true≢false (sym p)

rem_fits : (a b : ℤ) → FitsSigned w64 a → FitsSigned w64 (int_rem a b)
rem_fits a b f = record { sfits = omega (arith, f.sfits, mag_rem a b) }

-- the remainder is that of the division which rounds towards zero
pub remainder_is : (a b : ℤ) → FitsSigned w64 a → (b ≡ pos 0 → ⊥) → int_rem a b ≡ remainder a b
unfolding int_wrap
remainder_is a b f some = by (int_eq b (pos 0)) (int_eq a least_number && int_eq b minus_one) refl refl
  where
    by : (s t : Bool) → int_eq b (pos 0) ≡ s → int_eq a least_number && int_eq b minus_one ≡ t → int_rem a b ≡ cond s a (wrapped (a -ℤ cond s (pos 0) (cond t least_number (int_div a b)) *ℤ b))
    by true t p q = absurd (some ((Decides-int_eq b (pos 0)).0 p))
    by false true p q =
        let e = both (int_eq a least_number) (int_eq b minus_one) q in
        let x : a ≡ least_number = (Decides-int_eq a least_number).0 e.0 in
        let y : b ≡ minus_one = (Decides-int_eq b minus_one).0 e.1 in
        rw (x, y) refl
    by false false p q =
        let rest : a -ℤ int_div a b *ℤ b ≡ int_rem a b = omega (arith, ints, quot-rem a b) in
        sym (ap wrapped rest ∙ int_wrap_fits w64 (int_rem a b) (rem_fits a b f))
