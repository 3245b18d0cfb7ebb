-- Orders of events for systems whose actors have more to do from horizon to horizon. Horizons count from 0, at which nothing
-- is to be done, and events are those that a horizon adds to the one before.
use Rattle.std.specs.Prelude.{ℕ, suc, zero, List, [], ◌++◌, length}
use Rattle.lucy_stream.specs.Systems.{System}

-- every actor has done all its operations
abbrev pub all_done : System → ℕ → ℕ
all_done sys a = length (sys.ops a)

-- the events up to a horizon, one horizon's after another's
abbrev pub events_to : (ℕ → List ℕ) → ℕ → List ℕ
events_to events zero = []
events_to events (suc n) = events_to events n ++ events (suc n)
