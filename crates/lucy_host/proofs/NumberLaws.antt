-- What is wrapped is a number of 64 bits.
use Rattle.std.proofs.Common.{ℕ, ℤ, pos, negsuc, ◌+ℤ◌, ◌*◌, ◌%◌, ◌/◌, ◌+◌, ◌-◌, ◌^◌, suc, ap, ◌∙◌, ◌<◌, ◌≡◌, Bool, to_z, w64, inl, inr, lit<, arith, mod-lt, div-add-mod'}
use Rattle.std.proofs.lemmas.Bool.{cases_lt}
use Rattle.std.proofs.Math.Facts.{to_z-neg}
use Rattle.std.proofs.lemmas.Int.{ints}
use Rattle.std.specs.Int.{int_wrap}
use Rattle.lucy_host.specs.Numbers.{wrapped}

-- the signed reading of 64 bits, which lies one turn below their number or none
turned : (n : ℕ) → n < 2 ^ 64 → (j : ℕ) × (to_z w64 n +ℤ pos (j * 2 ^ 64) ≡ pos n)
turned n h =
    let k : ℕ = 2 ^ 64 - 1 - n in
    elim (cases_lt n (2 ^ 63)) [
      | inl low ↦ (0, omega (arith, ints))
      | inr high ↦
          let bits : n ≡ 2 ^ 64 - suc k = omega arith in
          let negative : to_z w64 n ≡ negsuc k = ap (to_z w64) bits ∙ to_z-neg w64 k (omega arith) in
          (1, omega (arith, ints))
    ]

-- a number and what it is wrapped to differ by a multiple of 2 ^ 64
pub wrapped_differs : (z : ℤ) → (j : ℕ) × (k : ℕ) × (wrapped z +ℤ pos (j * 2 ^ 64) ≡ z +ℤ pos (k * 2 ^ 64))
unfolding int_wrap
wrapped_differs (pos n) =
    let t = turned (n % 2 ^ 64) (mod-lt n (lit< tt)) in
    (t.0 + n / 2 ^ 64, 0, omega (arith, ints, t.1, div-add-mod' n (2 ^ 64)))
wrapped_differs (negsuc n) =
    let t = turned (2 ^ 64 - 1 - n % 2 ^ 64) (omega arith) in
    (t.0, n / 2 ^ 64 + 1, omega (arith, ints, t.1, div-add-mod' n (2 ^ 64)))
