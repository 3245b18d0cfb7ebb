-- Laws of runs: no ring holds more than its size and one, and none holds less than nothing.
use Rattle.std.proofs.Common.{ℕ, ◌+◌, ◌<◌, ◌≤◌, ◌≡◌, true, ltb, List, [], ◌∷◌, length, refl, ◌∙◌, subst, inl, inr, arith}
use Rattle.std.specs.List.{list_all}
use Rattle.std.proofs.lemmas.Bool.{cases_eq, and_parts, ltb-true}
use Rattle.lucy_stream.specs.Systems.{System}
use Rattle.lucy_stream.specs.Runs.{IsPossible, none_done, step, IsRun, after, IsWithin}
use Rattle.lucy_stream.proofs.CountLaws.{step-same, step-other, given-le, taken-le, given-step, taken-step, given-none, taken-none}

-- no actor is past its list
IsListed-step : (sys : System) (d : ℕ → ℕ) (a b : ℕ) → IsPossible sys d a → d b ≤ length (sys.ops b) → step d a b ≤ length (sys.ops b)
IsListed-step sys d a b is h = elim (cases_eq a b) [
  | inl e ↦
      let l : d b < length (sys.ops b) = subst (λ (c : ℕ). d c < length (sys.ops c)) e is.left in
      let s : step d a b ≡ d b + 1 = subst (λ (c : ℕ). step d a c ≡ d c + 1) e (step-same d a) in
      omega arith
  | inr n ↦ omega (arith, step-other d a b n)
]

pub IsWithin-step : (sys : System) (d : ℕ → ℕ) (a : ℕ) → IsPossible sys d a → IsWithin sys d → IsWithin sys (step d a)
IsWithin-step sys d a is w = record {
  behind = λ r. elim (taken-step sys d a r is.left) [
    | inl e ↦ omega (arith, w.behind r, given-le sys d (step d a) r (omega arith))
    | inr e ↦ omega (arith, is.item_held r e.0, e.1, given-le sys d (step d a) r (omega arith))
  ];
  fits = λ r. elim (given-step sys d a r is.left) [
    | inl e ↦ omega (arith, w.fits r, taken-le sys d (step d a) r (omega arith))
    | inr e ↦ omega (arith, is.room_left r e.0, e.1, taken-le sys d (step d a) r (omega arith))
  ];
  listed = λ b. IsListed-step sys d a b is (w.listed b);
}

pub IsWithin-run : (sys : System) (d : ℕ → ℕ) (picks : List ℕ) → IsRun sys d picks → IsWithin sys d → IsWithin sys (after d picks)
IsWithin-run sys d [] run w = w
IsWithin-run sys d (a ∷ picks) run w = IsWithin-run sys (step d a) picks run.1 (IsWithin-step sys d a run.0 w)

pub IsWithin-none : (sys : System) → IsWithin sys none_done
IsWithin-none sys = record {
  behind = λ r. omega (arith, taken-none sys none_done r refl, given-none sys none_done r refl);
  fits = λ r. omega (arith, taken-none sys none_done r refl, given-none sys none_done r refl);
  listed = λ a. omega arith;
}

-- events only add
pub after-le : (d : ℕ → ℕ) (picks : List ℕ) (b : ℕ) → d b ≤ after d picks b
after-le d [] b = omega arith
after-le d (a ∷ picks) b = omega (arith, after-le (step d a) picks b)

-- actors of a number past those that events name do nothing
pub after-past : (d : ℕ → ℕ) (picks : List ℕ) (count b : ℕ) → list_all (λ a. ltb a count) picks ≡ true → count ≤ b → after d picks b ≡ d b
after-past d [] count b h l = refl
after-past d (a ∷ picks) count b h l =
    let parts = and_parts (ltb a count) (list_all (λ a. ltb a count) picks) h in
    after-past (step d a) picks count b parts.1 l ∙ step-other d a b (λ (e : a ≡ b). absurd (omega (arith, ltb-true a count parts.0)))
