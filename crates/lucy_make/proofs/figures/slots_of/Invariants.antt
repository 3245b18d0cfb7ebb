use Rattle.std.proofs.Common.{◌≡◌, ◌+◌, drop}
use Rattle.lucy_make.specs.Figures.{net_slots}
use Rattle.lucy_make.proofs.figures.slots_of.Given as goal

abbrev pub invariant-each : goal.invariant-each
invariant-each l = l.slots + net_slots (drop l.ring-index l.rings) ≡ net_slots l.rings
