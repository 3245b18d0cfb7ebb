-- Words that agree for long enough agree for ever.
use Rattle.std.proofs.Common.{below_more, ℕ, suc, zero, ◌+◌, ◌-◌, ◌<◌, ◌≤◌, ◌≡◌, max, length, ap, sym, ◌∙◌, arith}
use Rattle.lucy_word.specs.Bits.{Bits, bit_at}
use Rattle.lucy_word.specs.Shortest.{Same}
use Rattle.lucy_word.proofs.BitsLaws.{bit_at-turn}

-- the bits at the instants up to n are the same
abbrev pub AgreeTo : Bits → Bits → ℕ → Type 0
AgreeTo a b n = (i : ℕ) → i < n + 1 → 0 < i → bit_at a i ≡ bit_at b i

pub agree_none : (a b : Bits) → AgreeTo a b 0
agree_none a b i h some = absurd (omega arith)

pub agree_more : (a b : Bits) (n : ℕ) → AgreeTo a b n → bit_at a (n + 1) ≡ bit_at b (n + 1) → AgreeTo a b (n + 1)
agree_more a b n agree next = below_more (λ i. 0 < i → bit_at a i ≡ bit_at b i) (n + 1) agree (λ some. next)

-- a bit stood there one period ago
turn_back : (w : Bits) (i : ℕ) → length w.prefix + length w.period < i → bit_at w i ≡ bit_at w (i - length w.period)
turn_back w i h =
    ap (bit_at w) (let e : i ≡ i - length w.period + length w.period = omega arith in e) ∙ bit_at-turn w (i - length w.period) (omega arith)

-- past the longer prefix and both periods, a bit is known by those before it
next_agrees : (a b : Bits) (n : ℕ) → 0 < length a.period → 0 < length b.period →
    max (length a.prefix) (length b.prefix) + length a.period + length b.period ≤ n → AgreeTo a b n → bit_at a (n + 1) ≡ bit_at b (n + 1)
next_agrees a b n some_a some_b long agree =
    let La : ℕ = length a.period in
    let Lb : ℕ = length b.period in
    let i : ℕ = n + 1 in
    turn_back a i (omega arith)
    ∙ agree (i - La) (omega arith) (omega arith)
    ∙ turn_back b (i - La) (omega arith)
    ∙ sym (agree (i - La - Lb) (omega arith) (omega arith))
    ∙ ap (bit_at a) (let e : i - La - Lb ≡ i - Lb - La = omega arith in e)
    ∙ sym (turn_back a (i - Lb) (omega arith))
    ∙ agree (i - Lb) (omega arith) (omega arith)
    ∙ sym (turn_back b i (omega arith))

agree_further : (a b : Bits) (n k : ℕ) → 0 < length a.period → 0 < length b.period →
    max (length a.prefix) (length b.prefix) + length a.period + length b.period ≤ n → AgreeTo a b n → AgreeTo a b (n + k)
agree_further a b n zero some_a some_b long agree i h = agree i (omega arith)
agree_further a b n (suc k) some_a some_b long agree i h =
    let before : AgreeTo a b (n + k) = agree_further a b n k some_a some_b long agree in
    agree_more a b (n + k) before (next_agrees a b (n + k) some_a some_b (omega arith) before) i (omega arith)

-- words that agree on the longer prefix and on as many bits more as both periods have are the same
pub Same-from_agreement : (a b : Bits) (n : ℕ) → 0 < length a.period → 0 < length b.period →
    max (length a.prefix) (length b.prefix) + length a.period + length b.period ≤ n → AgreeTo a b n → Same a b
Same-from_agreement a b n some_a some_b long agree i some = agree_further a b n i some_a some_b long agree i (omega arith) some
