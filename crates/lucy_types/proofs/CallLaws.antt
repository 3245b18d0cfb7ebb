-- The places of a call.
use Rattle.std.proofs.Common.{ℕ, zero, suc, ◌≡◌, ◌+◌, ◌-◌, ◌<◌, ◌∷◌, length, Some, arith, ap, sym, ◌∙◌, refl}
use Rattle.std.specs.Prelude.{slice_get}
use Rattle.std.proofs.lemmas.Option.{same_Some, slice_get_within}
use Rattle.lucy_types.specs.Ports.{counted}

pub length_counted : (first n : ℕ) → length (counted first n) ≡ n
length_counted first zero = refl
length_counted first (suc n) = ap suc (length_counted (first + 1) n)

pub counted_next : (first i n : ℕ) → i < n → counted (first + i) (n - i) ≡ (first + i) ∷ counted (first + (i + 1)) (n - (i + 1))
counted_next first i n h =
    let e : n - i ≡ suc (n - (i + 1)) = omega arith in
    let f : first + i + 1 ≡ first + (i + 1) = omega arith in
    ap (counted (first + i)) e ∙ ap (λ m. (first + i) ∷ counted m (n - (i + 1))) f

pub get_counted : (first n j : ℕ) → j < n → slice_get (counted first n) j ≡ Some (first + j)
get_counted first zero j h = absurd (omega arith)
get_counted first (suc n) zero h = ap Some (omega arith)
get_counted first (suc n) (suc j) h = get_counted (first + 1) n j (omega arith) ∙ ap Some (let e : first + 1 + j ≡ first + suc j = omega arith in e)

pub counted_get : (first n j p : ℕ) → slice_get (counted first n) j ≡ Some p → (j < n) × (p ≡ first + j)
counted_get first n j p e =
    let w : j < length (counted first n) = slice_get_within (counted first n) j p e in
    let l : length (counted first n) ≡ n = length_counted first n in
    let b : j < n = omega arith in
    (b, same_Some p (first + j) (sym e ∙ get_counted first n j b))
