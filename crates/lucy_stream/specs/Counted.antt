-- The state of given counts.
use Rattle.std.specs.Prelude.{ℕ, List}
use Rattle.lucy_stream.specs.Runs.{none_done, between}
use Rattle.lucy_stream.specs.States.{Machine, State, start, events}

-- the state at which each actor has done so many operations, by the events of an order that are done
abbrev pub state_at : Machine → List ℕ → (ℕ → ℕ) → State
state_at m order done = events m start (between none_done done order)
