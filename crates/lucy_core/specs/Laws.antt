-- What events go by.
use Rattle.std.specs.Prelude.{◌≡◌}
use Rattle.lucy_net.specs.Plans.{net_system}
use Rattle.lucy_core.specs.Seen.{Seen, machine_of}

-- which events are possible is decided by the net, the horizon and the counts: inputs and operators have no part in it
abbrev pub EventsGoByTheNet : Type 0
EventsGoByTheNet = (seen : Seen) → (machine_of seen).sys ≡ net_system seen.net seen.instants
