-- Events after events.
use Rattle.std.proofs.Common.{ℕ, suc, zero, ◌≤◌, ◌≡◌, Bool, cond, List, [], ◌∷◌, ◌++◌, length, take, sym, refl, subst, inl, inr, arith}
use Rattle.std.proofs.lemmas.Bool.{cases_Bool}
use Rattle.lucy_stream.specs.Systems.{System}
use Rattle.lucy_stream.specs.Runs.{step, IsRun, after}
use Rattle.lucy_stream.specs.Deciding.{is_possible, run_length}
use Rattle.lucy_stream.specs.States.{Machine, State, event, events}
use Rattle.lucy_stream.proofs.DecidingLaws.{possible_decides}

pub run_joined : (sys : System) (d : ℕ → ℕ) (xs ys : List ℕ) → IsRun sys d xs → IsRun sys (after d xs) ys → IsRun sys d (xs ++ ys)
run_joined sys d [] ys f r = r
run_joined sys d (a ∷ xs) ys f r = (f.0, run_joined sys (step d a) xs ys f.1 r)

pub run_first : (sys : System) (d : ℕ → ℕ) (xs ys : List ℕ) → IsRun sys d (xs ++ ys) → IsRun sys d xs
run_first sys d [] ys run = tt
run_first sys d (a ∷ xs) ys run = (run.0, run_first sys (step d a) xs ys run.1)

pub run_rest : (sys : System) (d : ℕ → ℕ) (xs ys : List ℕ) → IsRun sys d (xs ++ ys) → IsRun sys (after d xs) ys
run_rest sys d [] ys run = run
run_rest sys d (a ∷ xs) ys run = run_rest sys (step d a) xs ys run.1

pub after_joined : (d : ℕ → ℕ) (xs ys : List ℕ) (b : ℕ) → after d (xs ++ ys) b ≡ after (after d xs) ys b
after_joined d [] ys b = refl
after_joined d (a ∷ xs) ys b = after_joined (step d a) xs ys b

pub events_joined : (m : Machine) (s : State) (xs ys : List ℕ) → events m s (xs ++ ys) ≡ events m (events m s xs) ys
events_joined m s [] ys = refl
events_joined m s (a ∷ xs) ys = events_joined m (event m s a) xs ys

-- the events that are a run
pub length_run : (sys : System) (d : ℕ → ℕ) (xs : List ℕ) → IsRun sys d (take (run_length sys d xs) xs)
length_run sys d [] = tt
length_run sys d (a ∷ xs) =
    let more : ℕ = suc (run_length sys (step d a) xs) in
    elim (cases_Bool (is_possible sys d a)) [
      | inl y ↦ subst (λ (c : Bool). IsRun sys d (take (cond c more 0) (a ∷ xs))) (sym y) ((possible_decides sys d a).0 y, length_run sys (step d a) xs)
      | inr z ↦ subst (λ (c : Bool). IsRun sys d (take (cond c more 0) (a ∷ xs))) (sym z) tt
    ]

pub length_within : (sys : System) (d : ℕ → ℕ) (xs : List ℕ) → run_length sys d xs ≤ length xs
length_within sys d [] = omega arith
length_within sys d (a ∷ xs) =
    let more : ℕ = suc (run_length sys (step d a) xs) in
    let rest : run_length sys (step d a) xs ≤ length xs = length_within sys (step d a) xs in
    elim (cases_Bool (is_possible sys d a)) [
      | inl y ↦ subst (λ (c : Bool). cond c more 0 ≤ suc (length xs)) (sym y) (omega arith)
      | inr z ↦ subst (λ (c : Bool). cond c more 0 ≤ suc (length xs)) (sym z) (omega arith)
    ]

-- no longer front is
pub length_longest : (sys : System) (d : ℕ → ℕ) (xs : List ℕ) (n : ℕ) → n ≤ length xs → IsRun sys d (take n xs) → n ≤ run_length sys d xs
length_longest sys d [] n l run = omega arith
length_longest sys d (a ∷ xs) zero l run = omega arith
length_longest sys d (a ∷ xs) (suc n) l run =
    let more : ℕ = suc (run_length sys (step d a) xs) in
    let rest : n ≤ run_length sys (step d a) xs = length_longest sys (step d a) xs n (omega arith) run.1 in
    subst (λ (c : Bool). suc n ≤ cond c more 0) (sym ((possible_decides sys d a).1 run.0)) (omega arith)
