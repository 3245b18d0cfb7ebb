-- The counts by which small words are adaptable or late, and where small words differ.
use Rattle.std.proofs.Common.{◌≡◌, ◌+◌, ◌*◌, ◌≤◌, ℕ, subst, true, false, [], ◌∷◌, map, refl, ap, sym, ◌∙◌, inl, inr, lit<, lit≤, arith}
use Rattle.lucy_word.specs.Bits.{Bits, bit_at, ones_to}
use Rattle.lucy_check.specs.Verdicts.{IsVerdict}
use Rattle.lucy_check.specs.declared.verdict.Verdict.TheVariants.{Adaptable, Rates, Late}
use Rattle.lucy_check.specs.Horizon.{AreDecidedBy}
use Rattle.lucy_check.specs.Difference.{IsFirstDifference}
use Rattle.lucy_check.specs.declared.turns.Turns.{Turns}
use Rattle.lucy_check.specs.Turns.{AreTurns, AreRounds, IsBest, IsLeadFrom}
use Rattle.lucy_check.proofs.Remainders.{Meets, meet}
use Rattle.std.proofs.lemmas.Nat.Gcd.{IsGcd-from_zero, IsGcd-from_mod}
use Rattle.std.specs.Int.{IsGcd}
use Rattle.std.proofs.lemmas.Bool.{cases_eq}
use Rattle.lucy_check.proofs.Agreement.{AgreeTo, agree_none, agree_more, Same-from_agreement}
use Rattle.lucy_check.proofs.Periods.{Walked, walked_none, walked_more, Precedes-from_walked, IsSize-from_walked}
use Rattle.std.proofs.Math.Nat.{dvd_refl, le_of_dvd}

-- (10)
first : Bits
first = record { prefix = []; period = true ∷ false ∷ [] }

-- (01)
second : Bits
second = record { prefix = []; period = false ∷ true ∷ [] }

-- (1010)
twice : Bits
twice = record { prefix = []; period = true ∷ false ∷ true ∷ false ∷ [] }

-- (110)
often : Bits
often = record { prefix = []; period = true ∷ true ∷ false ∷ [] }

-- (10) leads (01) by 1 and 0 in turn
counts_of_first : map (ones_to first) (0 ∷ 1 ∷ 2 ∷ 3 ∷ 4 ∷ []) ≡ 0 ∷ 1 ∷ 1 ∷ 2 ∷ 2 ∷ []
unfolding first ones_to bit_at
counts_of_first = refl

counts_of_second : map (ones_to second) (0 ∷ 1 ∷ 2 ∷ 3 ∷ 4 ∷ []) ≡ 0 ∷ 0 ∷ 1 ∷ 1 ∷ 2 ∷ []
unfolding second ones_to bit_at
counts_of_second = refl

-- (10) is not of the rate of (110)
other_rate : IsVerdict first often Rates
unfolding first often
other_rate e = omega arith

-- (01) is late against (10) at the first instant
late_at_1 : IsVerdict second first (Late 1)
unfolding first second ones_to bit_at
late_at_1 = (
  refl,
  record {
    late = lit< tt;
    first = λ i h. (let e : i ≡ 0 = omega arith in omega (arith, ap (ones_to second) e, ap (ones_to first) e));
  },
)

-- (10) is adaptable to (01) with size 1
common : AreDecidedBy first second 2
unfolding first second
common = (2, record { of_left = dvd_refl 2; of_right = dvd_refl 2; positive = lit< tt; least = λ n some by_first by_second. le_of_dvd some by_first }, refl)

one_waits : IsVerdict first second (Adaptable 1)
unfolding first second ones_to bit_at
one_waits =
    let one : Walked first second 1 1 = walked_more first second 0 0 (walked_none first second) (lit≤ tt) in
    let two : Walked first second 2 1 = walked_more first second 1 1 one (lit≤ tt) in
    ((refl, Precedes-from_walked first second 2 1 common two (lit≤ tt)), IsSize-from_walked first second 2 1 common two refl)

-- (10) and (1010) have no difference
no_difference : (at : ℕ) → IsFirstDifference first twice at → ⊥
unfolding first twice bit_at
no_difference at h =
    let agree : AgreeTo first twice 6 =
    agree_more first twice 5 (agree_more first twice 4 (agree_more first twice 3 (agree_more first twice 2 (agree_more first twice 1 (agree_more first twice 0 (agree_none first twice) refl) refl) refl) refl) refl) refl in
    h.differs (Same-from_agreement first twice 6 (lit< tt) (lit< tt) (lit≤ tt) agree at h.instant)

-- (10) and (110) differ at instant 2 first
differ_at_2 : IsFirstDifference first often 2
unfolding first often bit_at
differ_at_2 = record {
  instant = lit< tt;
  differs = λ same. absurd (cc);
  first = λ i some h. let e : i ≡ 1 = omega arith in ap (bit_at first) e ∙ sym (ap (bit_at often) e);
}

-- (1100) and (011001): two turns of (1100) are no shorter than a step of 6, and four steps are three turns
four : Bits
four = record { prefix = []; period = true ∷ true ∷ false ∷ false ∷ [] }

six : Bits
six = record { prefix = []; period = false ∷ true ∷ true ∷ false ∷ false ∷ true ∷ [] }

turns : Turns
turns = record { start = 0; turn = 8; gain = 4; step = 6; cost = 3; rounds = 4; classes = 2 }

turns_of_four : AreTurns four six turns
unfolding four six turns
turns_of_four = record { start = refl; turn = record { start = lit≤ tt; periods = 2; turn = refl; gain = refl }; step = refl; cost = refl }

gcd_of_turns : IsGcd 8 6 2
gcd_of_turns = IsGcd-from_mod 8 6 2 (IsGcd-from_mod 6 2 2 (IsGcd-from_zero 2 0 refl))

rounds_of_four : AreRounds turns
unfolding turns
rounds_of_four = record { some = lit< tt; longer = lit≤ tt; rounds = lit< tt; together = (3, refl); classes = gcd_of_turns }

-- at place 2 the best of two places is the count there, 2, by which (1100) is ahead by 1
best_of_four : IsBest four turns 2 2 2
unfolding four turns ones_to bit_at
best_of_four =
    let Q : ℕ → Type 0 = λ m. ones_to four (turns.start + 2 + m * turns.step) ≤ 2 + m * turns.cost in
    let none : Q 0 = lit≤ tt in
    let one : Q 1 = lit≤ tt in
    record {
      reached = (0, lit< tt, refl);
      passed = λ m below. elim (cases_eq m 0) [ inl e ↦ subst Q (sym e) none | inr n ↦ subst Q (let e : 1 ≡ m = omega arith in e) one ];
    }

lead_of_four : IsLeadFrom six turns 2 2 1
unfolding six turns ones_to bit_at
lead_of_four = record { reached = inr (lit< tt, refl); passed = λ within. lit≤ tt }

-- places 1 and 3 agree modulo 2, so that lengths 8 and 6 bring them together
places_meet : Meets 8 6 1 3
places_meet = meet 8 6 2 1 3 (lit< tt) (lit< tt) gcd_of_turns refl
