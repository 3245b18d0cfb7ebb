-- Each item twice, by a merge that takes from one ring at a time: its events in two instants, and what they move.
use Rattle.std.proofs.Common.{ℕ, ◌*◌, zero, suc, List, [], ◌∷◌, ◌≡◌, length, true, false, refl, arith}
use Rattle.std.specs.Prelude.{pos, slice_index_or}
use Rattle.lucy_word.specs.Bits.{bit_at, ones_to}
use Rattle.lucy_stream.specs.Forms.{Given, Merged, Same}
use Rattle.lucy_stream.specs.Systems.{given, taken}
use Rattle.lucy_stream.specs.Runs.{none_done, after, IsWhole, between}
use Rattle.lucy_stream.specs.States.{Machine, start, events}
use Rattle.lucy_stream.specs.Plans.{Plan, system, machine, IsPlugged, kahn_list}
use Rattle.lucy_stream.proofs.RunLaws.{after-past}
use Rattle.lucy_stream.proofs.Plugged.{IsPluggedAt-from, IsPlugged-from, once_in_none, once_in_one, once_in_two}
use Rattle.lucy_stream.proofs.Moves.{moves, takes, gives}
use Rattle.lucy_stream.specs.Deciding.{is_run}
use Rattle.lucy_stream.proofs.DecidingLaws.{run_decides}

-- let node twice x = o where rec o = merge (10) x (buffer x), for two instants: the actors x, o, the merge, the buffer and the output o
twice : Plan
twice = record {
  tasks =
      record { form = Given 0; takes = []; gives = 1 ∷ 3 ∷ []; quota = 1 }
      ∷ record { form = Same; takes = 0 ∷ []; gives = 4 ∷ []; quota = 2 }
      ∷ record { form = Merged (record { prefix = []; period = true ∷ false ∷ [] }); takes = 1 ∷ 2 ∷ []; gives = 0 ∷ []; quota = 2 }
      ∷ record { form = Same; takes = 3 ∷ []; gives = 2 ∷ []; quota = 1 }
      ∷ record { form = Same; takes = 4 ∷ []; gives = []; quota = 2 } ∷ [];
  from = λ (r : ℕ). slice_index_or (2 ∷ 0 ∷ 3 ∷ 0 ∷ 1 ∷ []) r 0;
  to = λ (r : ℕ). slice_index_or (1 ∷ 2 ∷ 2 ∷ 3 ∷ 4 ∷ []) r 0;
  size = λ (r : ℕ). slice_index_or (0 ∷ 0 ∷ 0 ∷ 1 ∷ 0 ∷ []) r 0;
}

-- x 5, x 6, x 7
twice_machine : Machine
twice_machine = machine [] ((pos 5 ∷ pos 6 ∷ pos 7 ∷ []) ∷ []) twice

-- the merge takes from x in the first instant, and from the buffer in the second
twice_order : List ℕ
twice_order = 0 ∷ 0 ∷ 2 ∷ 2 ∷ 1 ∷ 1 ∷ 4 ∷ 3 ∷ 3 ∷ 2 ∷ 2 ∷ 1 ∷ 1 ∷ 4 ∷ []

twice_moves : moves twice_machine start twice_order ≡
    gives 1 5 ∷ gives 3 5 ∷ takes 1 5 ∷ gives 0 5 ∷ takes 0 5 ∷ gives 4 5 ∷ takes 4 5
    ∷ takes 3 5 ∷ gives 2 5 ∷ takes 2 5 ∷ gives 0 5 ∷ takes 0 5 ∷ gives 4 5 ∷ takes 4 5 ∷ []
unfolding twice_machine twice_order twice bit_at ones_to
twice_moves = refl

-- the output's list, which is its place's list in the iterate after two instants of four places, cut at two items
twice_output : (events twice_machine start twice_order).took 4 ≡ pos 5 ∷ pos 5 ∷ []
unfolding twice_machine twice_order twice bit_at ones_to
twice_output = refl

twice_kahn : kahn_list [] ((pos 5 ∷ pos 6 ∷ pos 7 ∷ []) ∷ []) twice (4 * 2) 4 ≡ pos 5 ∷ pos 5 ∷ pos 6 ∷ pos 6 ∷ pos 7 ∷ pos 7 ∷ []
unfolding twice bit_at ones_to
twice_kahn = refl

twice_finished : (a : ℕ) → after none_done twice_order a ≡ length ((system twice).ops a)
unfolding twice twice_order bit_at
twice_finished zero = refl
twice_finished (suc zero) = refl
twice_finished (suc (suc zero)) = refl
twice_finished (suc (suc (suc zero))) = refl
twice_finished (suc (suc (suc (suc zero)))) = refl
twice_finished (suc (suc (suc (suc (suc a))))) = after-past none_done twice_order 5 (suc (suc (suc (suc (suc a))))) refl (omega arith)

twice_possible : is_run (system twice) none_done twice_order ≡ true
unfolding twice twice_order given taken bit_at
twice_possible = refl

twice_whole : IsWhole (system twice) twice_order
twice_whole = record { run = (run_decides (system twice) none_done twice_order).0 twice_possible; all = twice_finished }

-- the buffer may also take before the merge does
twice_other : is_run (system twice) none_done (0 ∷ 0 ∷ 3 ∷ 3 ∷ 2 ∷ 2 ∷ []) ≡ true
unfolding twice given taken bit_at
twice_other = refl

-- after these, the events that are left of the whole run, in its order
twice_rest : between (after none_done (0 ∷ 0 ∷ 3 ∷ 3 ∷ 2 ∷ 2 ∷ [])) (after none_done twice_order) twice_order ≡ 1 ∷ 1 ∷ 4 ∷ 2 ∷ 2 ∷ 1 ∷ 1 ∷ 4 ∷ []
unfolding twice_order
twice_rest = refl

-- its actors are plugged together
twice_plugged : IsPlugged twice
unfolding twice
twice_plugged =
    IsPlugged-from twice (
      IsPluggedAt-from twice 0 _ (refl, (refl, tt)) tt (once_in_two 1 3 (λ e. absurd (omega (arith, e)))) once_in_none refl,
      (
        IsPluggedAt-from twice 1 _ (refl, tt) (refl, tt) (once_in_one 4) (once_in_one 0) refl,
        (
          IsPluggedAt-from twice 2 _ (refl, tt) (refl, (refl, tt)) (once_in_one 0) (once_in_two 1 2 (λ e. absurd (omega (arith, e)))) refl,
          (
            IsPluggedAt-from twice 3 _ (refl, tt) (refl, tt) (once_in_one 2) (once_in_one 3) refl,
            (
              IsPluggedAt-from twice 4 _ tt (refl, tt) once_in_none (once_in_one 4) refl,
              tt,
            ),
          ),
        ),
      ),
    )
