-- Laws of adaptability: rates show in the counts alone, and sampling both words by one clock keeps all.
use Rattle.std.proofs.Common.{ℕ, ◌+◌, ◌-◌, ◌*◌, ◌/◌, ◌%◌, ◌<◌, ◌≤◌, ◌≡◌, ◌↔◌, max, length, ap, ◌∙◌, inl, inr, arith}
use Rattle.std.proofs.Math.Nat.{div-add-mod, mod-lt, mul-le-mul_left}
use Rattle.std.proofs.lemmas.Nat.{mul-le}
use Rattle.std.proofs.lemmas.Bool.{cases_lt, cases_order}
use Rattle.lucy_word.specs.Bits.{Bits, bit_at, ones_to, ones_in, IsWord}
use Rattle.lucy_word.specs.Adaptable.{SameRate, Precedes, IsAdaptable, IsSize}
use Rattle.lucy_word.specs.Index.{IsIndex}
use Rattle.lucy_word.specs.Shortest.{Same}
use Rattle.lucy_word.specs.Sampling.{IsOn}
use Rattle.lucy_word.proofs.BitsLaws.{ones_to-le, period_some}
use Rattle.lucy_word.proofs.IndexLaws.{ones_to-periods, ones_to-same, IsIndex-some, IsIndex-within, IsIndex-there, IsIndex-behind}
use Rattle.lucy_word.proofs.SamplingLaws.{ones_to-on}

-- where a precedes b, each of its ones stands no later
pub Precedes-places : (a b : Bits) (j i k : ℕ) → Precedes a b → IsIndex a j i → IsIndex b j k → i ≤ k
Precedes-places a b j i k before of_a of_b = IsIndex-behind a j i k of_a (omega (arith, before k, of_b.there))

-- and where each stands no later, it precedes
pub Precedes-from_places : (a b : Bits) → IsWord a → ((j i k : ℕ) → IsIndex a j i → IsIndex b j k → i ≤ k) → Precedes a b
Precedes-from_places a b word_a before i =
    let of_b = IsIndex-within b (ones_to b i) i (omega arith) in
    let of_a = IsIndex-some a (ones_to b i) word_a in
    IsIndex-there a (ones_to b i) of_a.0 i of_a.1 (omega (arith, before (ones_to b i) of_a.0 of_b.0 of_a.1 of_b.2, of_b.1))

-- the counts of both words are never further apart than this
pub record StayClose (a b : Bits) (bound : ℕ) : Type 0 where
  pub ahead : (i : ℕ) → ones_to a i ≤ ones_to b i + bound
  pub behind : (i : ℕ) → ones_to b i ≤ ones_to a i + bound

-- with the same rate they stay close
pub StayClose-from_rate : (a b : Bits) → SameRate a b → 0 < length a.period → 0 < length b.period → (bound : ℕ) × StayClose a b bound
StayClose-from_rate a b same some_a some_b =
    let La : ℕ = length a.period in
    let Lb : ℕ = length b.period in
    let p : ℕ = max (length a.prefix) (length b.prefix) in
    let M : ℕ = La * Lb in
    let M_some : 0 < M = omega (arith, mul-le 1 1 La Lb some_a some_b) in
    let folded : (i : ℕ) → (r : ℕ) × (r ≤ p + M) × (k : ℕ) × (ones_to a i ≡ ones_to a r + k) × (ones_to b i ≡ ones_to b r + k) = λ i.
    elim (cases_lt i p) [
      | inl early ↦ (i, omega arith, 0, omega arith, omega arith)
      | inr later ↦
          let q : ℕ = (i - p) / M in
          let r : ℕ = p + (i - p) % M in
          let less : (i - p) % M < M = mod-lt (i - p) M_some in
          let turns : r + q * M ≡ i = omega (arith, div-add-mod (i - p) M) in
          let of_a : ones_to a i ≡ ones_to a r + q * Lb * ones_in a.period =
          ap (ones_to a) (let e : i ≡ r + q * Lb * La = omega arith in e) ∙ ones_to-periods a r (q * Lb) (omega arith) in
          let of_b : ones_to b i ≡ ones_to b r + q * La * ones_in b.period =
          ap (ones_to b) (let e : i ≡ r + q * La * Lb = omega arith in e) ∙ ones_to-periods b r (q * La) (omega arith) in
          let rates : q * (ones_in a.period * Lb) ≡ q * (ones_in b.period * La) = ap (λ n. q * n) same in
          (r, omega arith, q * Lb * ones_in a.period, of_a, omega arith)
    ] in (
      p + M,
      record {
        ahead = λ i. (let f = folded i in omega (arith, f.1, f.3, f.4, ones_to-le a f.0));
        behind = λ i. (let f = folded i in omega (arith, f.1, f.3, f.4, ones_to-le b f.0));
      },
    )

-- a word with the greater rate leaves the other behind
not_ahead : (a b : Bits) (bound : ℕ) → StayClose a b bound → ones_in b.period * length a.period < ones_in a.period * length b.period → ⊥
not_ahead a b bound close more =
    let La : ℕ = length a.period in
    let Lb : ℕ = length b.period in
    let p : ℕ = max (length a.prefix) (length b.prefix) in
    let q : ℕ = ones_to b p + bound + 1 in
    let i : ℕ = p + q * (La * Lb) in
    let of_a : ones_to a i ≡ ones_to a p + q * (ones_in a.period * Lb) =
    (let e : i ≡ p + q * Lb * La = omega arith in omega (arith, ap (ones_to a) e, ones_to-periods a p (q * Lb) (omega arith))) in
    let of_b : ones_to b i ≡ ones_to b p + q * (ones_in b.period * La) =
    (let e : i ≡ p + q * La * Lb = omega arith in omega (arith, ap (ones_to b) e, ones_to-periods b p (q * La) (omega arith))) in
    let apart : q * (ones_in b.period * La + 1) ≤ q * (ones_in a.period * Lb) = mul-le-mul_left q (let step : ones_in b.period * La + 1 ≤ ones_in a.period * Lb = omega arith in step) in
    omega (arith, close.ahead i)

-- and words that stay close have the same rate
pub SameRate-from_close : (a b : Bits) (bound : ℕ) → StayClose a b bound → SameRate a b
SameRate-from_close a b bound close =
    elim (cases_order (ones_in a.period * length b.period) (ones_in b.period * length a.period)) [
      | inl same ↦ same
      | inr (inl less) ↦ absurd (not_ahead b a bound (record { ahead = close.behind; behind = close.ahead }) less)
      | inr (inr more) ↦ absurd (not_ahead a b bound close more)
    ]

-- the rate is one of the bits and not of their spelling
pub SameRate-same : (a b x y : Bits) → ((i : ℕ) → 0 < i → bit_at a i ≡ bit_at x i) → ((i : ℕ) → 0 < i → bit_at b i ≡ bit_at y i) →
    0 < length a.period → 0 < length b.period → SameRate a b → SameRate x y
SameRate-same a b x y of_a of_b some_a some_b same =
    let close = StayClose-from_rate a b same some_a some_b in
    SameRate-from_close x y close.0 (record {
      ahead = λ i. omega (arith, close.1.ahead i, ones_to-same a x i of_a, ones_to-same b y i of_b);
      behind = λ i. omega (arith, close.1.behind i, ones_to-same a x i of_a, ones_to-same b y i of_b);
    })

-- sampled by one clock, words of one rate keep one rate
pub SameRate-on : (a b c x y : Bits) → IsOn c a x → IsOn c b y → 0 < length a.period → 0 < length b.period → SameRate a b → SameRate x y
SameRate-on a b c x y of_x of_y some_a some_b same =
    let close = StayClose-from_rate a b same some_a some_b in
    SameRate-from_close x y close.0 (record {
      ahead = λ i. omega (arith, close.1.ahead (ones_to c i), ones_to-on c a x i of_x, ones_to-on c b y i of_y);
      behind = λ i. omega (arith, close.1.behind (ones_to c i), ones_to-on c a x i of_x, ones_to-on c b y i of_y);
    })

-- and what one gives the other may take as before
pub IsAdaptable-on : (a b c x y : Bits) → IsOn c a x → IsOn c b y → IsWord a → IsWord b → IsAdaptable a b → IsAdaptable x y
IsAdaptable-on a b c x y of_x of_y word_a word_b is = (
  SameRate-on a b c x y of_x of_y (period_some a word_a) (period_some b word_b) is.0,
  λ i. omega (arith, is.1 (ones_to c i), ones_to-on c a x i of_x, ones_to-on c b y i of_y),
)

-- through a buffer of the same size
pub IsSize-on : (a b c x y : Bits) (size : ℕ) → IsOn c a x → IsOn c b y → IsWord c → IsSize a b size ↔ IsSize x y size
IsSize-on a b c x y size of_x of_y word_c =
    let at = λ (i : ℕ). IsIndex-some c i word_c in (
      λ is. record {
        reached = (let i = at is.reached.0 in
            (i.0, omega (arith, is.reached.1, ones_to-on c a x i.0 of_x, ones_to-on c b y i.0 of_y, ap (ones_to a) i.1.there, ap (ones_to b) i.1.there)));
        passed = λ i. omega (arith, is.passed (ones_to c i), ones_to-on c a x i of_x, ones_to-on c b y i of_y);
      },
      λ is. record {
        reached = (ones_to c is.reached.0, omega (arith, is.reached.1, ones_to-on c a x is.reached.0 of_x, ones_to-on c b y is.reached.0 of_y));
        passed = λ n. (let i = at n in
            omega (arith, is.passed i.0, ones_to-on c a x i.0 of_x, ones_to-on c b y i.0 of_y, ap (ones_to a) i.1.there, ap (ones_to b) i.1.there));
      },
    )

-- adaptability is one of the bits and not of their spelling
pub adaptable_same : (a b x y : Bits) → IsWord a → IsWord b → Same a x → Same b y → IsAdaptable a b → IsAdaptable x y
adaptable_same a b x y word_a word_b of_a of_b is = (
  SameRate-same a b x y of_a of_b (period_some a word_a) (period_some b word_b) is.0,
  λ i. omega (arith, is.1 i, ones_to-same a x i of_a, ones_to-same b y i of_b),
)

-- and so is the size
pub size_same : (a b x y : Bits) (size : ℕ) → Same a x → Same b y → IsSize a b size → IsSize x y size
size_same a b x y size of_a of_b is = record {
  reached = (is.reached.0, omega (arith, is.reached.1, ones_to-same a x is.reached.0 of_a, ones_to-same b y is.reached.0 of_b));
  passed = λ i. omega (arith, is.passed i, ones_to-same a x i of_a, ones_to-same b y i of_b);
}

-- between words with the same bits nothing waits
pub adaptable_self : (v w : Bits) → Same v w → IsAdaptable v w
adaptable_self v w same = (
  SameRate-from_close v w 0 (record { ahead = λ i. omega (arith, ones_to-same v w i same); behind = λ i. omega (arith, ones_to-same v w i same) }),
  λ i. omega (arith, ones_to-same v w i same),
)

pub size_self : (v w : Bits) → Same v w → IsSize v w 0
size_self v w same = record {
  reached = (0, omega (arith, ones_to-same v w 0 same));
  passed = λ i. omega (arith, ones_to-same v w i same);
}
