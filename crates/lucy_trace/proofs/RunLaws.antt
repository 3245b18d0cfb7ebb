-- Events are a run exactly where none of them isn't possible.
use Rattle.std.proofs.Common.{ℕ, zero, suc, ◌+◌, ◌<◌, ◌≤◌, List, [], ◌∷◌, length, take, inl, inr, sym, subst, arith}
use Rattle.std.proofs.lemmas.Bool.{cases_lt}
use Rattle.std.proofs.lemmas.List.{take_all}
use Rattle.lucy_stream.specs.Systems.{System}
use Rattle.lucy_stream.specs.Runs.{IsRun, step}
use Rattle.lucy_stream.specs.Deciding.{run_length}
use Rattle.lucy_stream.proofs.JoinedLaws.{length_run, length_longest}

module _ (sys : System) (done : ℕ → ℕ) (picks : List ℕ) where
  -- where none is left over they are a run
  pub all_run : length picks ≤ run_length sys done picks → IsRun sys done picks
  all_run all = subst (IsRun sys done) (take_all (run_length sys done picks) picks all) (length_run sys done picks)

  -- where one is left over they are none
  pub none_beyond : run_length sys done picks < length picks → IsRun sys done picks → ⊥
  none_beyond some run =
      let all : length picks ≤ run_length sys done picks =
      length_longest sys done picks (length picks) (omega arith) (subst (IsRun sys done) (sym (take_all (length picks) picks (omega arith))) run) in
      absurd (omega (arith, some, all))

  -- of more events than these a front isn't one
  pub none_longer_than : run_length sys done picks < length picks → IsRun sys done (take (run_length sys done picks + 1) picks) → ⊥
  none_longer_than some run =
      let longer = length_longest sys done picks (run_length sys done picks + 1) (omega (arith, some)) run in
      absurd (omega (arith, longer))

-- fewer of the first events of a run are one
pub run_take : (sys : System) (done : ℕ → ℕ) (picks : List ℕ) (m n : ℕ) → m ≤ n → IsRun sys done (take n picks) → IsRun sys done (take m picks)
run_take sys done picks zero n l run = tt
run_take sys done [] (suc m) n l run = tt
run_take sys done (a ∷ picks) (suc m) zero l run = absurd (omega (arith, l))
run_take sys done (a ∷ picks) (suc m) (suc n) l run = (run.0, run_take sys (step done a) picks m n (omega (arith, l)) run.1)

-- where one event more is no run, no more are one
pub none_longer : (sys : System) (done : ℕ → ℕ) (picks : List ℕ) (m n : ℕ) → (IsRun sys done (take (m + 1) picks) → ⊥) →
    IsRun sys done (take n picks) → n ≤ m
none_longer sys done picks m n none run = elim (cases_lt m n) [
  | inl l ↦ absurd (none (run_take sys done picks (m + 1) n (omega (arith, l)) run))
  | inr l ↦ l
]
