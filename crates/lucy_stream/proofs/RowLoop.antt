-- A loop without a delay is stuck. So where no whole run is known, states can be stuck.
use Rattle.std.proofs.Common.{ℕ, zero, suc, [], ◌∷◌, refl, arith}
use Rattle.lucy_stream.specs.Forms.{Same}
use Rattle.lucy_stream.specs.Systems.{System, IsWired, given, taken}
use Rattle.lucy_stream.specs.Runs.{none_done, IsPossible, IsFinished, IsStuck, IsListed}
use Rattle.lucy_stream.specs.Plans.{Plan, system, IsPlugged}
use Rattle.lucy_stream.proofs.PlanLaws.{IsWired-plan}
use Rattle.lucy_stream.proofs.Plugged.{IsPluggedAt-from, IsPlugged-from, once_in_one}

-- y = y: the one actor takes from its own ring before it gives to it
loop : Plan
loop = record { tasks = record { form = Same; takes = 0 ∷ []; gives = 0 ∷ []; quota = 1 } ∷ []; from = λ (r : ℕ). 0; to = λ (r : ℕ). 0; size = λ (r : ℕ). 0 }

loop_none : (a : ℕ) → IsPossible (system loop) none_done a → ⊥
unfolding loop given taken
loop_none zero is = absurd (omega (arith, is.item_held 0 refl))
loop_none (suc a) is = absurd (omega (arith, is.left))

loop_unfinished : IsFinished (system loop) none_done → ⊥
unfolding loop
loop_unfinished finished = absurd (omega (arith, finished 0))

loop_stuck : IsStuck (system loop) none_done
loop_stuck = record { unfinished = loop_unfinished; none = loop_none }

loop_plugged : IsPlugged loop
unfolding loop
loop_plugged = IsPlugged-from loop (IsPluggedAt-from loop 0 _ (refl, tt) (refl, tt) (once_in_one 0) (once_in_one 0) refl, tt)

-- that nothing is stuck does not hold of all wired actors
some_are_stuck : ((sys : System) (done : ℕ → ℕ) → IsWired sys → IsListed sys done → IsStuck sys done → ⊥) → ⊥
some_are_stuck never = never (system loop) none_done (IsWired-plan loop loop_plugged) (λ a. omega arith) loop_stuck
