use Rattle.lucy_types.proofs.SolveLaws.{OpenUpto}
use Rattle.lucy_types.proofs.solve.flood_open.Given as goal

abbrev pub invariant-each : goal.invariant-each
invariant-each l = OpenUpto l.graph l.initial.flood l.place l.classes l.flood
