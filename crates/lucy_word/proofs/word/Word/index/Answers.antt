use Rattle.std.proofs.Common.{◌≡◌, ◌↔◌, ◌<◌, ◌≤◌, ◌^◌, ℕ, length, take, ◌+◌, ◌-◌, ◌*◌, ◌/◌, ◌%◌, Bool, List, ap, sym, ◌∙◌, subst, refl, inl, inr, arith}
use Rattle.std.specs.Prelude.{Option, None, Some, IsNone, IfSome}
use Rattle.std.specs.Option.{SomeIff, is_some}
use Rattle.std.proofs.Math.Nat.{div-add-mod}
use Rattle.std.proofs.lemmas.Bool.{cases_lt, true≢false}
use Rattle.std.proofs.lemmas.List.{take_all}
use Rattle.lucy_word.specs.Bits.{Bits, ones_to, ones_in}
use Rattle.lucy_word.specs.Index.{IsIndex}
use Rattle.lucy_word.proofs.BitsLaws.{ones_to-prefix}
use Rattle.lucy_word.proofs.IndexLaws.{IsIndex-prefix, IsIndex-period, IsIndex-turns, IsIndex-one}
use Rattle.lucy_word.proofs.word.Word.index.Goals as goal

-- what the search in a list of bits found
record IsIn (bits : List Bool) (j n : ℕ) : Type 0 where
  within : n ≤ length bits
  there : ones_in (take n bits) ≡ j
  first : (k : ℕ) → k < n → ones_in (take k bits) < j

in_prefix : (w : Bits) (bits : List Bool) (j n : ℕ) → bits ≡ w.prefix → IsIn bits j n → IsIndex w j n
in_prefix w bits j n e found =
    let P : List Bool → Type 0 = λ b. IsIn b j n in
    let f : IsIn w.prefix j n = subst P e found in
    IsIndex-prefix w j n f.within f.there f.first

in_period : (w : Bits) (past n : ℕ) → 0 < ones_in w.period → IsIn w.period (past % ones_in w.period + 1) n →
    IsIndex w (ones_to w (length w.prefix) + past + 1) (past / ones_in w.period * length w.period + (length w.prefix + n))
in_period w past n some found =
    let R : ℕ = ones_in w.period in
    let q : ℕ = past / R in
    let at : ℕ = length w.prefix + n in
    let n_some : 0 < n =
    elim (cases_lt 0 n) [
      | inl more ↦ more
      | inr none ↦
          let z : ones_in (take n w.period) ≡ ones_in (take 0 w.period) = ap (λ k. ones_in (take k w.period)) (let n_zero : n ≡ 0 = omega arith in n_zero) in
          let zero_ones : ones_in (take 0 w.period) ≡ 0 = refl in
          absurd (omega (arith, found.there))
    ] in
    let first : IsIndex w (ones_to w (length w.prefix) + (past % R + 1)) at = IsIndex-period w (past % R + 1) n (omega arith) found.within found.there found.first in
    let turned = IsIndex-turns w (ones_to w (length w.prefix) + (past % R + 1)) at q (omega arith) first in
    let number : ones_to w (length w.prefix) + (past % R + 1) + q * R ≡ ones_to w (length w.prefix) + past + 1 = omega (arith, div-add-mod past R) in
    let place : at + q * length w.period ≡ q * length w.period + at = omega arith in
    let P : ℕ → Type 0 = λ j. IsIndex w j (at + q * length w.period) in
    let Q : ℕ → Type 0 = λ i. IsIndex w (ones_to w (length w.prefix) + past + 1) i in
    subst Q place (subst P number turned)

-- the place that is computed past the prefix, from what the calls answered
past_prefix : (w : Bits) (bits : List Bool) (number len turn before ones n : ℕ) → bits ≡ w.period → len ≡ length w.prefix → turn ≡ length w.period →
    before ≡ ones_to w len → ones ≡ ones_in w.period → 0 < ones → before < number → IsIn bits ((number - before - 1) % ones + 1) n →
    IsIndex w number ((number - before - 1) / ones * turn + (len + n))
past_prefix w bits number len turn before ones n e el et eb eo some more found =
    let past : ℕ = number - before - 1 in
    let P : List Bool → Type 0 = λ b. IsIn b (past % ones + 1) n in
    let Q : ℕ → Type 0 = λ o. IsIn w.period (past % o + 1) n in
    let at = in_period w past n (omega arith) (subst Q eo (subst P e found)) in
    let is_number : ones_to w (length w.prefix) + past + 1 ≡ number = omega (arith, ap (ones_to w) el) in
    let is_place : past / ones_in w.period * length w.period + (length w.prefix + n) ≡ past / ones * turn + (len + n) = cc in
    let S : ℕ → Type 0 = λ j. IsIndex w j (past / ones_in w.period * length w.period + (length w.prefix + n)) in
    let T : ℕ → Type 0 = λ i. IsIndex w number i in
    subst T is_place (subst S is_number at)

-- no place exactly where it is too great
none_exactly : (w : Bits) (number place : ℕ) (r : Option ℕ) → IsIndex w number place → (IsNone r → 2 ^ 64 ≤ place) → (2 ^ 64 ≤ place → IsNone r) →
    IsNone r ↔ ((i : ℕ) × IsIndex w number i × (2 ^ 64 ≤ i))
none_exactly w number place r is out back = (
  λ none. (place, is, out none),
  λ given. back (omega (arith, IsIndex-one w number given.0 place given.1 is, given.2)),
)

pub index-requires : goal.index-requires
index-requires c =
    let w : Bits = c.args.self.now in
    let prefix : c.self.inside.prefix ≡ w.prefix = ap (λ b. b.prefix) c.self.view_is in
    let all : ones_in (take (length w.prefix) w.prefix) ≡ ones_in w.prefix = ap ones_in (take_all (length w.prefix) w.prefix (omega arith)) in
    let before : c.ones-before.result ≡ ones_to w (length w.prefix) = c.ones-before.ensures ∙ ap (ones_to w) c.lengths-len.ensures.prefix in
    record { enough = omega (arith, ap ones_in prefix, ones_to-prefix w (length w.prefix) (omega arith)) }

here : (c : goal.After-index) → IsIndex c.args.self.now c.args.number c.index.result
here c =
    in_prefix c.args.self.now c.self.inside.prefix c.args.number c.index.result (ap (λ b. b.prefix) c.self.view_is)
    (record { within = c.index.ensures.within; there = c.index.ensures.there; first = c.index.ensures.first })

pub returns-then-number-before-clause-some : goal.returns-then-number-before-clause-some
returns-then-number-before-clause-some c = here c

pub returns-then-number-before-clause-none : goal.returns-then-number-before-clause-none
returns-then-number-before-clause-none c = none_exactly c.args.self.now c.args.number c.index.result (Some c.index.result) (here c) (λ e. absurd (true≢false e)) (λ h. absurd (omega arith))

past : (c : goal.After-checked_add) → IsIndex c.args.self.now c.args.number (c.in_ok-checked_mul.field-0 + (c.lengths-len.result.0 + c.index-part.result))
past c =
    let P : ℕ → Type 0 = λ turns. IsIndex c.args.self.now c.args.number (turns + (c.lengths-len.result.0 + c.index-part.result)) in
    subst P (sym c.in_ok-checked_mul.ensures.1)
    (past_prefix c.args.self.now c.self.inside.period c.args.number c.lengths-len.result.0 c.lengths-len.result.1 c.ones-before.result c.rate-ones.result.0 c.index-part.result
    (ap (λ b. b.period) c.self.view_is) c.lengths-len.ensures.prefix c.lengths-len.ensures.period c.ones-before.ensures c.rate-ones.ensures.ones
    c.rate-ones.ensures.has_one c.if-number-before.false
    (record { within = c.index-part.ensures.within; there = c.index-part.ensures.there; first = c.index-part.ensures.first }))

pub returns-in_err-checked_mul-clause-none : goal.returns-in_err-checked_mul-clause-none
returns-in_err-checked_mul-clause-none c =
    none_exactly c.args.self.now c.args.number _ c.from_residual.result
    (past_prefix c.args.self.now c.self.inside.period c.args.number c.lengths-len.result.0 c.lengths-len.result.1 c.ones-before.result c.rate-ones.result.0 c.index-part.result
    (ap (λ b. b.period) c.self.view_is) c.lengths-len.ensures.prefix c.lengths-len.ensures.period c.ones-before.ensures c.rate-ones.ensures.ones
    c.rate-ones.ensures.has_one c.if-number-before.false
    (record { within = c.index-part.ensures.within; there = c.index-part.ensures.there; first = c.index-part.ensures.first }))
    (λ _. omega (arith, c.in_err-checked_mul.ensures)) (λ _. ap is_some c.from_residual.ensures)

given : (w : Bits) (number place : ℕ) (r : Option ℕ) → IsIndex w number place → SomeIff r (place < 2 ^ 64) place →
    (IfSome r (IsIndex w number)) × (IsNone r ↔ ((i : ℕ) × IsIndex w number i × (2 ^ 64 ≤ i)))
given w number place None is made = (tt, none_exactly w number place None is (λ _. omega (arith, made)) (λ _. refl))
given w number place (Some x) is made =
    let P : ℕ → Type 0 = λ i. IsIndex w number i in
    (subst P (sym made.1) is, none_exactly w number place (Some x) is (λ e. absurd (true≢false e)) (λ h. absurd (omega (arith, made.0))))

pub returns-clause-some : goal.returns-clause-some
returns-clause-some c = (given c.args.self.now c.args.number _ c.checked_add.result (past c) c.checked_add.ensures).0

pub returns-clause-none : goal.returns-clause-none
returns-clause-none c = (given c.args.self.now c.args.number _ c.checked_add.result (past c) c.checked_add.ensures).1
