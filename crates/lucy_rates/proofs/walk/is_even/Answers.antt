use Rattle.std.proofs.Common.{◌≡◌, ◌*◌, ◌<◌, ℕ, length, sym, ap, ◌∙◌, subst, arith}
use Rattle.std.specs.Int.{IsGcd}
use Rattle.std.proofs.Common.{List}
use Rattle.lucy_word.specs.Bits.{ones_in}
use Rattle.lucy_need.specs.declared.need.Term.{Term}
use Rattle.lucy_rates.specs.declared.fraction.Fraction.{Fraction}
use Rattle.lucy_rates.specs.Walks.{first_of, second_of}
use Rattle.lucy_rates.specs.Trees.{AreEven}
use Rattle.lucy_rates.specs.Forests.{rate_at, IsRateFraction}
use Rattle.lucy_rates.proofs.Gauss.{even_to, even_from}
use Rattle.lucy_rates.proofs.walk.is_even.Goals as goal

abbrev Same : Fraction → Fraction → Type 0
Same a b = (a.num ≡ b.num) × (a.den ≡ b.den)

abbrev Even : Term → Term → Fraction → Fraction → Type 0
Even s t a b = a.num * b.den * (ones_in s.word.period * length t.word.period) ≡ b.num * a.den * (length s.word.period * ones_in t.word.period)

abbrev Says : Fraction → List Fraction → Term → Term → Type 0
Says f rates s t = (Same f (rate_at rates t.clock) → Even s t (rate_at rates s.clock) (rate_at rates t.clock)) × (Even s t (rate_at rates s.clock) (rate_at rates t.clock) → Same f (rate_at rates t.clock))

says : (f a b : Fraction) (s t : Term) (num den : ℕ) → num ≡ ones_in s.word.period * length t.word.period → den ≡ length s.word.period * ones_in t.word.period → 0 < den → 0 < a.den → 0 < b.den → 0 < f.den → IsGcd f.num f.den 1 → IsGcd b.num b.den 1 →
    f.num * (a.den * den) ≡ a.num * num * f.den → (Same f b → Even s t a b) × (Even s t a b → Same f b)
says f a b s t num den e g some some_a some_b some_f h k is =
    let o = ones_in s.word.period * length t.word.period in
    let u = length s.word.period * ones_in t.word.period in
    let is' : f.num * (a.den * u) ≡ a.num * o * f.den = ap (λ z. f.num * (a.den * z)) (sym g) ∙ is ∙ ap (λ z. a.num * z * f.den) e in (
      λ same. even_to a.num a.den b.num b.den o u f.num f.den is' same.0 same.1,
      λ even. even_from a.num a.den b.num b.den o u f.num f.den some_a (omega arith) some_f some_b h k is' even,
    )

pub returns : goal.returns
returns c =
    let s = c.terms.result.0.now in
    let t = c.terms.result.1.now in
    let rates = c.args.rates.now in
    let f = c.times-expected.result in
    let first = subst (λ (x : Term). IsRateFraction (rate_at rates x.clock)) (sym c.terms.ensures.first) c.requires.first in
    let second = subst (λ (x : Term). IsRateFraction (rate_at rates x.clock)) (sym c.terms.ensures.second) c.requires.second in
    let law : Says f rates s t = says f (rate_at rates s.clock) (rate_at rates t.clock) s t c.factor-num.result.0 c.factor-num.result.1 c.factor-num.ensures.over c.factor-num.ensures.under c.factor-num.ensures.some_under
    first.den second.den c.times-expected.ensures.over c.times-expected.ensures.lowest second.lowest c.times-expected.ensures.same in
    let here : (Same f (rate_at rates t.clock) → AreEven c.args.need.now (rate_at rates (first_of c.args.need.now).clock).num (rate_at rates (first_of c.args.need.now).clock).den (rate_at rates (second_of c.args.need.now).clock).num (rate_at rates (second_of c.args.need.now).clock).den)
    × (AreEven c.args.need.now (rate_at rates (first_of c.args.need.now).clock).num (rate_at rates (first_of c.args.need.now).clock).den (rate_at rates (second_of c.args.need.now).clock).num (rate_at rates (second_of c.args.need.now).clock).den → Same f (rate_at rates t.clock)) =
    subst (λ (x : Term). (Same f (rate_at rates t.clock) → Even x (second_of c.args.need.now) (rate_at rates x.clock) (rate_at rates (second_of c.args.need.now).clock)) × (Even x (second_of c.args.need.now) (rate_at rates x.clock) (rate_at rates (second_of c.args.need.now).clock) → Same f (rate_at rates t.clock))) c.terms.ensures.first
    (subst (λ (y : Term). (Same f (rate_at rates t.clock) → Even s y (rate_at rates s.clock) (rate_at rates y.clock)) × (Even s y (rate_at rates s.clock) (rate_at rates y.clock) → Same f (rate_at rates t.clock))) c.terms.ensures.second law) in
    (λ yes'. here.0 (c.is_same.ensures.0 yes'), λ even. c.is_same.ensures.1 (here.1 even))
