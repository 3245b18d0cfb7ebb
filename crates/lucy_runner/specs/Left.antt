-- What is left to do: the measure of rounds.
use Rattle.std.specs.Prelude.{ℕ, ◌-◌, length}
use Rattle.lucy_stream.specs.Schedules.{all_done}
use Rattle.lucy_stream.specs.Totals.{total}
use Rattle.lucy_core.specs.Seen.{Seen, machine_of, done_of}

-- how many operations all actors together have left
unfoldable pub events_left : Seen → ℕ
events_left seen = total (length seen.net.actors) (all_done (machine_of seen).sys) - total (length seen.net.actors) (done_of seen.done)
