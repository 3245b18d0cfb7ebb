-- How many events a run has.
use Rattle.std.proofs.Common.{ℕ, suc, zero, ◌+◌, ◌<◌, ◌≤◌, ◌≡◌, cond, eqb, List, [], ◌∷◌, length, ap, sym, ◌∙◌, subst, inl, inr, arith}
use Rattle.std.proofs.lemmas.Bool.{cases_lt, cases_eq}
use Rattle.std.proofs.lemmas.List.Sums.{sum_by-cons}
use Rattle.lucy_stream.specs.Systems.{System}
use Rattle.lucy_stream.specs.Runs.{step, IsRun, after, Leads}
use Rattle.lucy_stream.specs.Plans.{times}
use Rattle.lucy_stream.specs.Totals.{total, OnlyFirst}
use Rattle.lucy_stream.proofs.CountLaws.{step-same, step-other}

-- an actor's count rises by its events
pub after-times : (d : ℕ → ℕ) (picks : List ℕ) (b : ℕ) → after d picks b ≡ d b + times b picks
after-times d [] b = omega arith
after-times d (a ∷ picks) b = omega (arith, after-times (step d a) picks b, sum_by-cons (λ s. cond (eqb s b) 1 0) a picks)

-- terms that are the same have the same total
pub total-same : (n : ℕ) (f g : ℕ → ℕ) → ((a : ℕ) → a < n → f a ≡ g a) → total n f ≡ total n g
total-same zero f g h = omega arith
total-same (suc n) f g h = omega (arith, total-same n f g (λ a l. h a (omega arith)), h n (omega arith))

pub total-step : (n : ℕ) (d : ℕ → ℕ) (a : ℕ) → a < n → total n (step d a) ≡ total n d + 1
total-step zero d a l = absurd (omega arith)
total-step (suc n) d a l = elim (cases_eq a n) [
  | inl e ↦
      let rest : total n (step d a) ≡ total n d = total-same n (step d a) d (λ b m. step-other d a b (λ (f : a ≡ b). absurd (omega arith))) in
      let last : step d a n ≡ d n + 1 = subst (λ (b : ℕ). step d a b ≡ d b + 1) e (step-same d a) in
      omega arith
  | inr ne ↦ omega (arith, total-step n d a (omega arith), step-other d a n ne)
]

run_counted : (sys : System) (n : ℕ) (d : ℕ → ℕ) (picks : List ℕ) → OnlyFirst sys n → IsRun sys d picks → total n (after d picks) ≡ total n d + length picks
run_counted sys n d [] only run = omega arith
run_counted sys n d (a ∷ picks) only run =
    let first : a < n = elim (cases_lt a n) [ inl l ↦ l | inr l ↦ absurd (omega (arith, only a l, run.0.left)) ] in
    omega (arith, run_counted sys n (step d a) picks only run.1, total-step n d a first)

-- so the sum of all counts rises by the number of events
pub events_counted : (sys : System) (n : ℕ) (low high : ℕ → ℕ) (picks : List ℕ) → OnlyFirst sys n → Leads sys low picks high → total n high ≡ total n low + length picks
events_counted sys n low high picks only leads = sym (total-same n (after low picks) high (λ a l. leads.ends a)) ∙ run_counted sys n low picks only leads.run

-- terms that are at most others have at most their total
pub total_le : (n : ℕ) (f g : ℕ → ℕ) → ((a : ℕ) → f a ≤ g a) → total n f ≤ total n g
total_le zero f g h = omega arith
total_le (suc n) f g h = omega (arith, total_le n f g h, h n)

-- a total of one term more
pub total_more : (n : ℕ) (f : ℕ → ℕ) → total (n + 1) f ≡ total n f + f n
total_more n f = (let e : n + 1 ≡ suc n = omega arith in ap (λ k. total k f) e)
