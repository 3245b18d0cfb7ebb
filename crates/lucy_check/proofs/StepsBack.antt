-- One step back in a turn.
use Rattle.std.proofs.Common.{ℕ, ◌+◌, ◌-◌, ◌*◌, ◌<◌, ◌≤◌, ◌≡◌, max, ap, ◌∙◌, inl, inr, arith}
use Rattle.std.proofs.lemmas.Bool.{cases_lt, cases_eq}
use Rattle.lucy_word.specs.Bits.{Bits, ones_to, most_bits}
use Rattle.lucy_check.specs.Turns.{IsTurn, AreShort, IsBest}
use Rattle.lucy_check.specs.declared.turns.Turns.{Turns}
use Rattle.lucy_word.proofs.BitsLaws.{ones_to-le}
use Rattle.std.proofs.lemmas.Nat.{mul-le}
use Rattle.lucy_check.proofs.TurnsLaws.{ones_to-turn}

-- a place one step earlier in the turn, where need be in the next turn, and the best that is carried there
pub record IsBack (t : Turns) (place best earlier carried : ℕ) : Type 0 where
  pub turns : ℕ
  pub back : earlier + t.step ≡ place + turns * t.turn
  pub brought : carried ≡ best + turns * t.gain

-- what a has had at the places from there on is known from those before
further : (a : Bits) (t : Turns) → IsTurn a t → (place best earlier carried m : ℕ) (back : IsBack t place best earlier carried) →
    ones_to a (t.start + earlier + (m + 1) * t.step) ≡ ones_to a (t.start + place + m * t.step) + back.turns * t.gain
further a t is place best earlier carried m back =
    let at : t.start + earlier + (m + 1) * t.step ≡ t.start + place + m * t.step + back.turns * t.turn = omega (arith, back.back) in
    ap (ones_to a) at ∙ ones_to-turn a t is (t.start + place + m * t.step) back.turns (omega arith)

pub best_back : (a : Bits) (t : Turns) → IsTurn a t → (place best earlier carried now steps : ℕ) → IsBack t place best earlier carried →
    now ≡ max (ones_to a (t.start + earlier)) (carried - t.cost) → IsBest a t place best steps → IsBest a t earlier now (steps + 1)
best_back a t is place best earlier carried now steps back e h =
    let here : ones_to a (t.start + earlier + 0 * t.step) ≡ ones_to a (t.start + earlier) = ap (ones_to a) (omega arith) in
    record {
      reached = elim (cases_lt (ones_to a (t.start + earlier)) (carried - t.cost)) [
        | inl less ↦
            let m : ℕ = h.reached.0 in
            (m + 1, omega arith, omega (arith, further a t is place best earlier carried m back, h.reached.2, back.brought))
        | inr more ↦ (0, omega arith, omega arith)
      ];
      passed = λ m below. elim (cases_eq m 0) [
        | inl none ↦
            let same : ones_to a (t.start + earlier + m * t.step) ≡ ones_to a (t.start + earlier) =
            ap (λ n. ones_to a (t.start + earlier + n * t.step)) none ∙ here in
            omega arith
        | inr some ↦
            let n : ℕ = m - 1 in
            let f : m ≡ n + 1 = omega arith in
            let g : ones_to a (t.start + earlier + m * t.step) ≡ ones_to a (t.start + earlier + (n + 1) * t.step) =
            ap (λ k. ones_to a (t.start + earlier + k * t.step)) f in
            let cost : m * t.cost ≡ (n + 1) * t.cost = ap (λ k. k * t.cost) f in
            omega (arith, further a t is place best earlier carried n back, h.passed n (omega arith), back.brought)
      ];
    }

-- before any step
pub best_none : (a : Bits) (t : Turns) (place best : ℕ) → best ≡ ones_to a (t.start + place) → IsBest a t place best 1
best_none a t place best e = record {
  reached = (0, omega arith, ap (ones_to a) (let f : t.start + place + 0 * t.step ≡ t.start + place = omega arith in f) ∙ (omega arith));
  passed = λ m below.
      let none : m ≡ 0 = omega arith in
      let f : t.start + place + m * t.step ≡ t.start + place = ap (λ n. t.start + place + n * t.step) none ∙ (omega arith) in
      omega (arith, ap (ones_to a) f);
}

-- over no more than two rounds it stays far from what 64 bits hold
pub best_small : (a : Bits) (t : Turns) → AreShort t → (place best steps : ℕ) → place < t.turn → steps ≤ 2 * t.rounds + 1 → IsBest a t place best steps → best < 4611686018427387904
best_small a t short place best steps within few h =
    let m : ℕ = h.reached.0 in
    let far : m * t.step ≤ 8 * most_bits * most_bits = mul-le m t.step (8 * most_bits) most_bits (omega (arith, h.reached.1, short.turn, short.rounds)) short.step in
    omega (arith, h.reached.2, ones_to-le a (t.start + place + m * t.step), short.start, short.turn)
