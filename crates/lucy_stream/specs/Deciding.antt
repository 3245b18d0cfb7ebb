-- Whether an event is possible, and whether events are a run, as truths that compute.
use Rattle.std.specs.Prelude.{ℕ, suc, ◌+◌, Bool, true, List, [], ◌∷◌, length, nat_le, nat_lt, ◌&&◌, if◌then◌else◌}
use Rattle.lucy_stream.specs.Systems.{RingOp, Takes, Gives, System, op_at, given, taken}
use Rattle.lucy_stream.specs.Runs.{step}

-- at these counts there is an item for the operation to take, or room for it to give
abbrev pub has_room : System → (ℕ → ℕ) → RingOp → Bool
has_room sys done (Takes r) = nat_lt (taken sys done r) (given sys done r)
has_room sys done (Gives r) = nat_le (given sys done r) (taken sys done r + sys.size r)

-- the actor's event is possible
abbrev pub is_possible : System → (ℕ → ℕ) → ℕ → Bool
is_possible sys done a = nat_lt (done a) (length (sys.ops a)) && has_room sys done (op_at sys a (done a))

-- the events are a run
abbrev pub is_run : System → (ℕ → ℕ) → List ℕ → Bool
is_run sys done [] = true
is_run sys done (a ∷ picks) = is_possible sys done a && is_run sys (step done a) picks

-- how many of the events are a run, in turn up to the first that isn't possible
abbrev pub run_length : System → (ℕ → ℕ) → List ℕ → ℕ
run_length sys done [] = 0
run_length sys done (a ∷ picks) = if is_possible sys done a then suc (run_length sys (step done a) picks) else 0
