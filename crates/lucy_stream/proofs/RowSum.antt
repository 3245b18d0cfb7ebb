-- The running sum: its events in two instants, and what they move.
use Rattle.std.proofs.Common.{ℕ, ◌*◌, zero, suc, List, [], ◌∷◌, ◌++◌, ◌≤◌, ◌≡◌, length, true, false, refl, subst, arith}
use Rattle.std.specs.Prelude.{ℤ, pos, Option, Some, None, slice_get, slice_index_or}
use Rattle.std.specs.Int.{int_wrap}
use Rattle.lucy_host.specs.OpValue.{op_value}
use Rattle.lucy_host.specs.declared.op.Op.TheVariants.{Add}
use Rattle.lucy_stream.specs.Forms.{Given, Pointwise, Delayed, Same}
use Rattle.lucy_stream.specs.Fronts.{IsFront}
use Rattle.lucy_stream.specs.Systems.{given, taken}
use Rattle.lucy_stream.specs.Runs.{none_done, step, IsRun, after, IsWhole, first_left}
use Rattle.lucy_stream.specs.States.{Machine, start, events}
use Rattle.lucy_stream.specs.Plans.{Task, Plan, system, machine, IsPlugged, HasInput, IsFed, kahn_list, QuotasWithin, GiveBelow}
use Rattle.lucy_stream.proofs.RunLaws.{after-past}
use Rattle.lucy_stream.proofs.Plugged.{IsPluggedAt-from, IsPlugged-from, once_in_none, once_in_one, once_in_two}
use Rattle.lucy_stream.proofs.Moves.{moves, takes, gives}
use Rattle.lucy_stream.specs.Deciding.{is_run}
use Rattle.lucy_stream.proofs.KahnLaws.{kahn_front}
use Rattle.lucy_stream.proofs.DecidingLaws.{run_decides}

-- let node sum x = o where rec f = 0 fby o and o = x + f, for two instants: the actors x, f, o, 0 fby o, x + f and the output o
sum : Plan
sum = record {
  tasks =
      record { form = Given 0; takes = []; gives = 3 ∷ []; quota = 2 }
      ∷ record { form = Same; takes = 0 ∷ []; gives = 4 ∷ []; quota = 2 }
      ∷ record { form = Same; takes = 1 ∷ []; gives = 2 ∷ 5 ∷ []; quota = 2 }
      ∷ record { form = Delayed (pos 0); takes = 2 ∷ []; gives = 0 ∷ []; quota = 2 }
      ∷ record { form = Pointwise Add; takes = 3 ∷ 4 ∷ []; gives = 1 ∷ []; quota = 2 }
      ∷ record { form = Same; takes = 5 ∷ []; gives = []; quota = 2 } ∷ [];
  from = λ (r : ℕ). slice_index_or (3 ∷ 4 ∷ 2 ∷ 0 ∷ 1 ∷ 2 ∷ []) r 0;
  to = λ (r : ℕ). slice_index_or (1 ∷ 2 ∷ 3 ∷ 4 ∷ 4 ∷ 5 ∷ []) r 0;
  size = λ (r : ℕ). 0;
}

-- x 1, x 2, x 3
sum_inputs : List (List ℤ)
sum_inputs = (pos 1 ∷ pos 2 ∷ pos 3 ∷ []) ∷ []

sum_machine : Machine
sum_machine = machine [] sum_inputs sum

-- a possible order of an instant's events, and of both instants'
sum_instant : List ℕ
sum_instant = 0 ∷ 3 ∷ 1 ∷ 1 ∷ 4 ∷ 4 ∷ 4 ∷ 2 ∷ 2 ∷ 2 ∷ 3 ∷ 5 ∷ []

sum_order : List ℕ
sum_order = sum_instant ++ sum_instant

-- the 24 events with their values
sum_moves : moves sum_machine start sum_order ≡
    gives 3 1 ∷ gives 0 0 ∷ takes 0 0 ∷ gives 4 0 ∷ takes 3 1 ∷ takes 4 0 ∷ gives 1 1 ∷ takes 1 1 ∷ gives 2 1 ∷ gives 5 1 ∷ takes 2 1 ∷ takes 5 1
    ∷ gives 3 2 ∷ gives 0 1 ∷ takes 0 1 ∷ gives 4 1 ∷ takes 3 2 ∷ takes 4 1 ∷ gives 1 3 ∷ takes 1 3 ∷ gives 2 3 ∷ gives 5 3 ∷ takes 2 3 ∷ takes 5 3 ∷ []
unfolding sum_machine sum_inputs sum_order sum_instant sum op_value int_wrap
sum_moves = refl

-- the output's list
sum_output : (events sum_machine start sum_order).took 5 ≡ pos 1 ∷ pos 3 ∷ []
unfolding sum_machine sum_inputs sum_order sum_instant sum op_value int_wrap
sum_output = refl

-- which is, in the iterate after two instants of five places, the list of the output's place
sum_kahn : kahn_list [] sum_inputs sum (5 * 2) 5 ≡ pos 1 ∷ pos 3 ∷ []
unfolding sum sum_inputs op_value int_wrap
sum_kahn = refl

sum_finished : (a : ℕ) → after none_done sum_order a ≡ length ((system sum).ops a)
unfolding sum sum_order sum_instant
sum_finished zero = refl
sum_finished (suc zero) = refl
sum_finished (suc (suc zero)) = refl
sum_finished (suc (suc (suc zero))) = refl
sum_finished (suc (suc (suc (suc zero)))) = refl
sum_finished (suc (suc (suc (suc (suc zero))))) = refl
sum_finished (suc (suc (suc (suc (suc (suc a)))))) = after-past none_done sum_order 6 (suc (suc (suc (suc (suc (suc a)))))) refl (omega arith)

sum_possible : is_run (system sum) none_done sum_order ≡ true
unfolding sum sum_order sum_instant given taken
sum_possible = refl

-- they are all, each possible in its turn
sum_whole : IsWhole (system sum) sum_order
sum_whole = record { run = (run_decides (system sum) none_done sum_order).0 sum_possible; all = sum_finished }

-- the input's actor goes no further ahead than its ring lets it: its second give isn't possible yet
sum_ahead : is_run (system sum) none_done (0 ∷ 0 ∷ []) ≡ false
unfolding sum given taken
sum_ahead = refl

-- where that actor alone has done its first give, the delay comes next
sum_next : first_left (step none_done 0) sum_order ≡ Some 3
unfolding sum_order sum_instant
sum_next = refl

-- its actors are plugged together
sum_plugged : IsPlugged sum
unfolding sum
sum_plugged =
    IsPlugged-from sum (
      IsPluggedAt-from sum 0 _ (refl, tt) tt (once_in_one 3) once_in_none refl,
      (
        IsPluggedAt-from sum 1 _ (refl, tt) (refl, tt) (once_in_one 4) (once_in_one 0) refl,
        (
          IsPluggedAt-from sum 2 _ (refl, (refl, tt)) (refl, tt) (once_in_two 2 5 (λ e. absurd (omega (arith, e)))) (once_in_one 1) refl,
          (
            IsPluggedAt-from sum 3 _ (refl, tt) (refl, tt) (once_in_one 0) (once_in_one 2) refl,
            (
              IsPluggedAt-from sum 4 _ (refl, tt) (refl, (refl, tt)) (once_in_one 1) (once_in_two 3 4 (λ e. absurd (omega (arith, e)))) refl,
              (
                IsPluggedAt-from sum 5 _ tt (refl, tt) once_in_none (once_in_one 5) refl,
                tt,
              ),
            ),
          ),
        ),
      ),
    )

-- a fact of the actor, where there is one
abbrev Holds : (Task → Type 0) → Option Task → Type 0
Holds fact None = Unit {0}
Holds fact (Some task) = fact task

-- the actor that gives the input has an item of it for each of its firings
fed_at : (a : ℕ) → Holds (λ task. HasInput sum_inputs task.form task.quota) (slice_get sum.tasks a)
unfolding sum sum_inputs
fed_at zero = omega arith
fed_at (suc zero) = tt
fed_at (suc (suc zero)) = tt
fed_at (suc (suc (suc zero))) = tt
fed_at (suc (suc (suc (suc zero)))) = tt
fed_at (suc (suc (suc (suc (suc zero))))) = tt
fed_at (suc (suc (suc (suc (suc (suc a)))))) = tt

sum_fed : IsFed sum_inputs sum
sum_fed a task e = subst (Holds (λ t. HasInput sum_inputs t.form t.quota)) e (fed_at a)

-- each has two firings
within_at : (a : ℕ) → Holds (λ task. task.quota ≤ 2) (slice_get sum.tasks a)
unfolding sum
within_at zero = omega arith
within_at (suc zero) = omega arith
within_at (suc (suc zero)) = omega arith
within_at (suc (suc (suc zero))) = omega arith
within_at (suc (suc (suc (suc zero)))) = omega arith
within_at (suc (suc (suc (suc (suc zero))))) = omega arith
within_at (suc (suc (suc (suc (suc (suc a)))))) = tt

sum_within : QuotasWithin sum 2
sum_within a task e = subst (Holds (λ t. t.quota ≤ 2)) e (within_at a)

-- and the output's actor alone gives to no ring
below_at : (a : ℕ) → 5 ≤ a → Holds (λ task. task.gives ≡ []) (slice_get sum.tasks a)
unfolding sum
below_at zero l = absurd (omega arith)
below_at (suc zero) l = absurd (omega arith)
below_at (suc (suc zero)) l = absurd (omega arith)
below_at (suc (suc (suc zero))) l = absurd (omega arith)
below_at (suc (suc (suc (suc zero)))) l = absurd (omega arith)
below_at (suc (suc (suc (suc (suc zero))))) l = refl
below_at (suc (suc (suc (suc (suc (suc a)))))) l = tt

sum_below : GiveBelow sum 5
sum_below a task e l = subst (Holds (λ t. t.gives ≡ [])) e (below_at a l)

-- so whatever the order of the events was, the output's list is a front of its place's list
sum_any_run : (picks : List ℕ) → IsRun (system sum) none_done picks → IsFront ((events sum_machine start picks).gave 5) (kahn_list [] sum_inputs sum (5 * 2) 5)
unfolding sum_machine
sum_any_run picks run = kahn_front [] sum_inputs sum 5 2 picks (record { plugged = sum_plugged; fed = sum_fed; give_below = sum_below; quotas = sum_within }) run 5
