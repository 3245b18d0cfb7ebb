-- A word that precedes another has its rate or a greater one.
use Rattle.std.proofs.Common.{ℕ, ◌+◌, ◌*◌, ◌<◌, ◌≤◌, ◌≡◌, max, length, ap, inl, inr, arith}
use Rattle.std.proofs.Math.Nat.{mul-le-mul_left}
use Rattle.std.proofs.lemmas.Bool.{cases_lt}
use Rattle.lucy_word.specs.Bits.{Bits, ones_to, ones_in}
use Rattle.lucy_word.specs.Adaptable.{Precedes}
use Rattle.lucy_word.proofs.IndexLaws.{ones_to-periods}
use Rattle.lucy_check.specs.Rates.{IsNoSlower}

-- a word with the lower rate falls behind, however far it is ahead at first
left_behind : (a b : Bits) → Precedes a b → ones_in a.period * length b.period < ones_in b.period * length a.period → ⊥
left_behind a b precedes less =
    let La : ℕ = length a.period in
    let Lb : ℕ = length b.period in
    let p : ℕ = max (length a.prefix) (length b.prefix) in
    let q : ℕ = ones_to a p + 1 in
    let i : ℕ = p + q * (La * Lb) in
    let of_a : ones_to a i ≡ ones_to a p + q * (ones_in a.period * Lb) =
    (let e : i ≡ p + q * Lb * La = omega arith in omega (arith, ap (ones_to a) e, ones_to-periods a p (q * Lb) (omega arith))) in
    let of_b : ones_to b i ≡ ones_to b p + q * (ones_in b.period * La) =
    (let e : i ≡ p + q * La * Lb = omega arith in omega (arith, ap (ones_to b) e, ones_to-periods b p (q * La) (omega arith))) in
    let apart : q * (ones_in a.period * Lb + 1) ≤ q * (ones_in b.period * La) = mul-le-mul_left q (let step : ones_in a.period * Lb + 1 ≤ ones_in b.period * La = omega arith in step) in
    omega (arith, precedes i)

pub IsNoSlower-from_precedes : (a b : Bits) → Precedes a b → IsNoSlower a b
IsNoSlower-from_precedes a b precedes =
    elim (cases_lt (ones_in a.period * length b.period) (ones_in b.period * length a.period)) [
      | inl less ↦ absurd (left_behind a b precedes less)
      | inr more ↦ more
    ]
