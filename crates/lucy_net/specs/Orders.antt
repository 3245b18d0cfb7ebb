-- Orders of a net's events, instant by instant. Instants count from 1; `before` instants are before the one that is meant.
use Rattle.std.specs.Prelude.{ℕ, ◌+◌, List}
use Rattle.lucy_stream.specs.Runs.{Leads, IsWhole}
use Rattle.lucy_stream.specs.Schedules.{events_to}
use Rattle.lucy_net.specs.declared.net.Net.{Net}
use Rattle.lucy_net.specs.Plans.{net_system, done_by}

-- a possible order of the events of one instant, which are the operations of its firings
abbrev pub IsOrder : Net → ℕ → List ℕ → Type 0
IsOrder net before order = Leads (net_system net (before + 1)) (done_by net before) order (done_by net (before + 1))

-- the schedule is sound: for every horizon the events of the instants up to it are a run of all operations up to it
abbrev pub IsSound : Net → (ℕ → List ℕ) → Type 0
IsSound net events = (n : ℕ) → IsWhole (net_system net n) (events_to events n)
