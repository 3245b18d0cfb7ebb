use Rattle.lucy_types.specs.Graphs.{HasTrue}
use Rattle.lucy_types.proofs.SolveLaws.{ForcedUpto}
use Rattle.lucy_types.proofs.solve.flood_forced.Given as goal

abbrev pub invariant-each : goal.invariant-each
invariant-each l = ForcedUpto l.graph (HasTrue l.forced) l.ty l.initial.flood l.place l.flood
