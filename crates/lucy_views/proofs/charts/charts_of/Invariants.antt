use Rattle.lucy_views.proofs.Drawn.{Goes}
use Rattle.lucy_views.proofs.charts.charts_of.Given as goal

abbrev pub invariant-each : goal.invariant-each
invariant-each l = Goes l.accepted l.instants l.node l.out.items
