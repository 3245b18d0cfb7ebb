use Rattle.std.proofs.Common.{◌-◌, length}
use Rattle.lucy_types.proofs.SpreadLaws.{Spreads}
use Rattle.lucy_types.proofs.flood.spread.Given as goal

abbrev pub invariant-each : goal.invariant-each
invariant-each l = Spreads l.graph l.ty l.start l.initial.flood l.next l.flood

abbrev pub decreases-each : goal.decreases-each
decreases-each l = length l.graph.near.items - l.next
