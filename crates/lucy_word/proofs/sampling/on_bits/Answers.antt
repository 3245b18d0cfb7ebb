use Rattle.std.proofs.Common.{◌≡◌, ◌+◌, ◌<◌, ℕ, length, sym, ◌∙◌, subst, arith}
use Rattle.lucy_word.specs.Bits.{Bits}
use Rattle.lucy_word.specs.Sampling.{IsOn, AreComputedLengths}
use Rattle.lucy_word.specs.SamplingSteps.{IsLeft, AreFirstOn}
use Rattle.lucy_word.proofs.SamplingLaws.{IsOn-from, IsWord-on, AreComputedLengths-some}
use Rattle.lucy_word.proofs.StepLaws.{bit_on-left}
use Rattle.lucy_word.proofs.sampling.on_bits.Goals as goal

lengths : (c : goal.In_ok-period) → AreComputedLengths c.args.a.now c.args.b.now (length c.in_ok-prefix.prefix) (length c.in_ok-period.period)
lengths c =
    let P : ℕ → Type 0 = λ n. AreComputedLengths c.args.a.now c.args.b.now n c.args.period_len in
    let Q : ℕ → Type 0 = λ n. AreComputedLengths c.args.a.now c.args.b.now (length c.in_ok-prefix.prefix) n in
    subst Q (sym c.in_ok-period.ensures.count) (subst P (sym c.in_ok-prefix.ensures.count) c.requires.lengths)

nonempty : (c : goal.In_ok-period) → 0 < length c.in_ok-period.period
nonempty c = AreComputedLengths-some c.args.a.now c.args.b.now _ _ (lengths c) c.requires.first

-- the bits of both lists, from walks that began with a and b
whole : (a b x y u v w : Bits) → x ≡ a → y ≡ b → AreFirstOn x y w.prefix → IsLeft x y (length w.prefix) u v → AreFirstOn u v w.period →
    AreComputedLengths a b (length w.prefix) (length w.period) → 0 < length w.period → IsOn a b w
whole a b x y u v w e f first left next lengths some =
    let P : Bits → Type 0 = λ k. AreComputedLengths k b (length w.prefix) (length w.period) in
    let Q : Bits → Type 0 = λ k. AreComputedLengths x k (length w.prefix) (length w.period) in
    let on : IsOn x y w = IsOn-from x y w (subst Q (sym f) (subst P (sym e) lengths)) some first
    (λ k h. next k h ∙ bit_on-left x y u v (length w.prefix) (k + 1) left (omega arith)) in
    let R : Bits → Type 0 = λ k. IsOn k y w in
    let S : Bits → Type 0 = λ k. IsOn a k w in
    subst S f (subst R e on)

on : (c : goal.In_ok-period) → IsOn c.args.a.now c.args.b.now (record { prefix = c.in_ok-prefix.prefix; period = c.in_ok-period.period })
on c =
    let P : ℕ → Type 0 = λ n. IsLeft c.walk-kept.result c.walk-read.result n c.steps.new.a c.steps.new.b in
    whole c.args.a.now c.args.b.now c.walk-kept.result c.walk-read.result c.steps.new.a c.steps.new.b _ c.walk-kept.ensures c.walk-read.ensures
    c.in_ok-prefix.ensures.bits (subst P (sym c.in_ok-prefix.ensures.count) c.in_ok-prefix.ensures.left) c.in_ok-period.ensures.bits (lengths c) (nonempty c)

pub returns-clause-on : goal.returns-clause-on
returns-clause-on c = on c

pub returns-clause-has_one : goal.returns-clause-has_one
returns-clause-has_one c =
    (IsWord-on c.args.a.now c.args.b.now (record { prefix = c.in_ok-prefix.prefix; period = c.in_ok-period.period }) (on c)
    c.requires.first c.requires.second (nonempty c)).has_one
