-- One common period decides about all instants.
use Rattle.std.proofs.Common.{below_more, ℕ, ◌+◌, ◌-◌, ◌*◌, ◌%◌, ◌/◌, ◌<◌, ◌≤◌, ◌≡◌, max, length, ap, ◌∙◌, inl, inr, arith}
use Rattle.std.proofs.Math.Nat.{div-add-mod, le_of_mul-le-mul_right, mul-le-mul_left, div-mul_cancel, mod-lt, pos_of_dvd_of_pos}
use Rattle.std.proofs.lemmas.Bool.{cases_lt}
use Rattle.lucy_word.specs.Bits.{Bits, ones_to, ones_in}
use Rattle.lucy_word.proofs.BitsLaws.{ones_to-none}
use Rattle.lucy_word.proofs.IndexLaws.{ones_to-periods}
use Rattle.lucy_word.specs.Adaptable.{SameRate, Precedes, IsSize}
use Rattle.lucy_check.specs.Horizon.{AreDecidedBy}
use Rattle.lucy_check.specs.Rates.{IsNoSlower}

-- what is known once the instants up to n are looked at
pub record Walked (a b : Bits) (n most : ℕ) : Type 0 where
  pub before : (i : ℕ) → i < n + 1 → ones_to b i ≤ ones_to a i
  pub reached : (i : ℕ) × (ones_to a i ≡ ones_to b i + most)
  pub passed : (i : ℕ) → i < n + 1 → ones_to a i ≤ ones_to b i + most

pub walked_none : (a b : Bits) → Walked a b 0 0
walked_none a b =
    let x : (i : ℕ) → i < 0 + 1 → ones_to a i ≡ 0 = λ i h. ap (ones_to a) (let e : i ≡ 0 = omega arith in e) ∙ ones_to-none a in
    let y : (i : ℕ) → i < 0 + 1 → ones_to b i ≡ 0 = λ i h. ap (ones_to b) (let e : i ≡ 0 = omega arith in e) ∙ ones_to-none b in
    record {
      before = λ i h. omega (arith, x i h, y i h);
      reached = (0, omega (arith, ones_to-none a, ones_to-none b));
      passed = λ i h. omega (arith, x i h, y i h);
    }

pub walked_more : (a b : Bits) (n most : ℕ) → Walked a b n most → ones_to b (n + 1) ≤ ones_to a (n + 1) →
    Walked a b (n + 1) (max most (ones_to a (n + 1) - ones_to b (n + 1)))
walked_more a b n most w h =
    let lead : ℕ = ones_to a (n + 1) - ones_to b (n + 1) in
    record {
      before = below_more (λ i. ones_to b i ≤ ones_to a i) (n + 1) w.before h;
      reached = elim (cases_lt most lead) [ inl l ↦ (n + 1, omega arith) | inr l ↦ (w.reached.0, omega (arith, w.reached.1)) ];
      passed = below_more (λ i. ones_to a i ≤ ones_to b i + max most lead) (n + 1) (λ i l. omega (arith, w.passed i l)) (omega arith);
    }

-- the counts at instant i are those at 0 or one of the first n instants, with numbers added that stand as the rates do
pub record Folds (a b : Bits) (n i : ℕ) : Type 0 where
  pub at : ℕ
  pub within : at < n + 1
  pub more_a : ℕ
  pub more_b : ℕ
  pub of_a : ones_to a i ≡ ones_to a at + more_a
  pub of_b : ones_to b i ≡ ones_to b at + more_b
  pub first : IsNoSlower a b → more_b ≤ more_a
  pub second : IsNoSlower b a → more_a ≤ more_b

-- in q common periods the word that is no slower has at least as many ones
more_ones : (La Lb oa ob x y q P : ℕ) → 0 < Lb → x * La ≡ P → y * Lb ≡ P → ob * La ≤ oa * Lb → q * y * ob ≤ q * x * oa
more_ones La Lb oa ob x y q P some by_a by_b rate =
    let s : x * (ob * La) ≤ x * (oa * Lb) = mul-le-mul_left x rate in
    let t : ob * (x * La) ≡ ob * P = ap (λ t. ob * t) by_a in
    let u : ob * (y * Lb) ≡ ob * P = ap (λ t. ob * t) by_b in
    let v : y * ob * Lb ≤ x * oa * Lb = omega arith in
    let w : q * (y * ob) ≤ q * (x * oa) = mul-le-mul_left q (le_of_mul-le-mul_right v some) in
    omega arith

pub folded : (a b : Bits) (n : ℕ) → AreDecidedBy a b n → (i : ℕ) → Folds a b n i
folded a b n horizon i =
    let La : ℕ = length a.period in
    let Lb : ℕ = length b.period in
    let oa : ℕ = ones_in a.period in
    let ob : ℕ = ones_in b.period in
    let P : ℕ = horizon.0 in
    let x : ℕ = P / La in
    let y : ℕ = P / Lb in
    let M : ℕ = max (length a.prefix) (length b.prefix) in
    let by_a : x * La ≡ P = div-mul_cancel La horizon.1.of_left in
    let by_b : y * Lb ≡ P = div-mul_cancel Lb horizon.1.of_right in
    let some_a : 0 < La = pos_of_dvd_of_pos horizon.1.of_left horizon.1.positive in
    let some_b : 0 < Lb = pos_of_dvd_of_pos horizon.1.of_right horizon.1.positive in
    elim (cases_lt i (n + 1)) [
      | inl h ↦ record { at = i; within = h; more_a = 0; more_b = 0; of_a = omega arith; of_b = omega arith; first = λ rate. omega arith; second = λ rate. omega arith }
      | inr h ↦
          let m : ℕ = i - M in
          let q : ℕ = m / P in
          let r : ℕ = M + m % P in
          let below : m % P < P = mod-lt m horizon.1.positive in
          let parts : P * q + m % P ≡ m = div-add-mod m P in
          let turns_a : q * (x * La) ≡ q * P = ap (λ t. q * t) by_a in
          let turns_b : q * (y * Lb) ≡ q * P = ap (λ t. q * t) by_b in
          let ia : i ≡ r + q * x * La = omega (arith, horizon.2) in
          let ib : i ≡ r + q * y * Lb = omega (arith, horizon.2) in
          record {
            at = r;
            within = omega (arith, horizon.2);
            more_a = q * x * oa;
            more_b = q * y * ob;
            of_a = ap (ones_to a) ia ∙ ones_to-periods a r (q * x) (omega arith);
            of_b = ap (ones_to b) ib ∙ ones_to-periods b r (q * y) (omega arith);
            first = more_ones La Lb oa ob x y q P some_b by_a by_b;
            second = more_ones Lb La ob oa y x q P some_a by_b by_a;
          }
    ]

pub Precedes-from_walked : (a b : Bits) (n most : ℕ) → AreDecidedBy a b n → Walked a b n most → IsNoSlower a b → Precedes a b
Precedes-from_walked a b n most horizon w rate i =
    let f : Folds a b n i = folded a b n horizon i in
    omega (arith, w.before f.at f.within, f.of_a, f.of_b, f.first rate)

pub IsSize-from_walked : (a b : Bits) (n most : ℕ) → AreDecidedBy a b n → Walked a b n most → SameRate a b → IsSize a b most
IsSize-from_walked a b n most horizon w same = record {
  reached = w.reached;
  passed = λ i.
      let f : Folds a b n i = folded a b n horizon i in
      omega (arith, w.passed f.at f.within, f.of_a, f.of_b, f.second (omega arith));
}
