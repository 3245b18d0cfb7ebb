-- What is known of the leads in a class while places are gone back to.
use Rattle.std.proofs.Common.{ℕ, ◌+◌, ◌*◌, ◌<◌, ◌≤◌, ◌≡◌, ◌⊎◌, max, ap, ◌∙◌, inl, inr, arith}
use Rattle.std.proofs.lemmas.Bool.{cases_lt}
use Rattle.lucy_word.specs.Bits.{Bits, ones_to}
use Rattle.lucy_word.proofs.BitsLaws.{ones_to-none}
use Rattle.lucy_check.specs.Turns.{AreTurns, AreRounds, IsBest, IsLeadFrom}
use Rattle.lucy_check.specs.declared.turns.Turns.{Turns}
use Rattle.lucy_check.proofs.Remainders.{same_place}
use Rattle.lucy_check.proofs.TurnsLaws.{ones_to-step}

-- the place in the turn where so many steps back from the first place of the class lead
pub record StepsBackTo (t : Turns) (class place steps : ℕ) : Type 0 where
  pub within : place < t.turn
  pub turns : ℕ
  pub same : place + steps * t.step ≡ class + turns * t.turn

pub steps_none : (t : Turns) (class : ℕ) → class < t.turn → StepsBackTo t class class 0
steps_none t class h = record { within = h; turns = 0; same = omega arith }

pub steps_more : (t : Turns) (class place earlier steps : ℕ) → StepsBackTo t class place steps → earlier < t.turn →
    (earlier + t.step ≡ place) ⊎ (earlier + t.step ≡ place + t.turn) → StepsBackTo t class earlier (steps + 1)
steps_more t class place earlier steps h within back =
    elim back [
      | inl same ↦ record { within = within; turns = h.turns; same = omega (arith, h.same) }
      | inr turned ↦ record { within = within; turns = h.turns + 1; same = omega (arith, h.same) }
    ]

-- a round of steps leads back to the first place
pub steps_round : (t : Turns) → AreRounds t → (class place steps : ℕ) → class < t.turn → StepsBackTo t class place steps → steps ≡ t.rounds → place ≡ class
steps_round t round class place steps within to e =
    let back : steps * t.step ≡ round.together.0 * t.turn = ap (λ n. n * t.step) e ∙ round.together.1 in
    same_place t.turn place class round.together.0 to.turns to.within within (omega (arith, to.same))

-- no lead is passed at the places in the period of b that fewer steps lead back to
pub record IsSeen (a b : Bits) (t : Turns) (class steps most : ℕ) : Type 0 where
  pub reached : (i : ℕ) × (ones_to a i ≡ ones_to b i + most)
  pub passed : (k w p : ℕ) → k < steps → p < t.step → p + k * t.step ≡ class + w * t.turn →
      (m : ℕ) → m < t.rounds → ones_to a (t.start + p + m * t.step) ≤ ones_to b (t.start + p) + most + m * t.cost

pub seen_none : (a b : Bits) (t : Turns) (class : ℕ) → IsSeen a b t class 0 0
seen_none a b t class = record {
  reached = (0, omega (arith, ones_to-none a, ones_to-none b));
  passed = λ k w p below some e m less. absurd (omega arith);
}

-- a lead that comes with a best is one of an instant
lead_of_best : (a b : Bits) (t : Turns) → AreTurns a b t → (place best steps lead : ℕ) → IsBest a t place best steps → IsLeadFrom b t place best lead →
    (i : ℕ) × (ones_to a i ≡ ones_to b i + lead)
lead_of_best a b t is place best steps lead best_is there =
    elim there.reached [
      | inl none ↦ (0, omega (arith, ones_to-none a, ones_to-none b))
      | inr some ↦
          let m : ℕ = best_is.reached.0 in
          (t.start + place + m * t.step, omega (arith, best_is.reached.2, some.1, ones_to-step a b t is (t.start + place) m (omega arith)))
    ]

pub seen_more : (a b : Bits) (t : Turns) → AreRounds t → AreTurns a b t → (class place best steps lead most now : ℕ) → IsSeen a b t class steps most →
    StepsBackTo t class place steps → IsBest a t place best (t.rounds + 1 + steps) → IsLeadFrom b t place best lead → now ≡ max most lead →
    IsSeen a b t class (steps + 1) now
seen_more a b t round is class place best steps lead most now seen to best_is there e = record {
  reached =
      elim (cases_lt most lead) [
        | inl l ↦ (let i = lead_of_best a b t is place best (t.rounds + 1 + steps) lead best_is there in (i.0, omega (arith, i.1)))
        | inr l ↦ (seen.reached.0, omega (arith, seen.reached.1))
      ];
  passed = λ k w p below some same m less.
      elim (cases_lt k steps) [
        | inl before ↦ omega (arith, seen.passed k w p before some same m less)
        | inr last ↦
            let k_is : k * t.step ≡ steps * t.step = ap (λ n. n * t.step) (omega arith) in
            let p_is : p ≡ place = same_place t.turn p place to.turns w (omega (arith, round.longer)) to.within (omega (arith, to.same)) in
            let of_a : ones_to a (t.start + p + m * t.step) ≡ ones_to a (t.start + place + m * t.step) = ap (λ n. ones_to a (t.start + n + m * t.step)) p_is in
            let of_b : ones_to b (t.start + p) ≡ ones_to b (t.start + place) = ap (λ n. ones_to b (t.start + n)) p_is in
            omega (arith, best_is.passed m (omega arith), there.passed (omega arith))
      ];
}
