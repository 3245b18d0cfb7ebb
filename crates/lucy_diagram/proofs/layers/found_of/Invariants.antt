use Rattle.lucy_diagram.specs.Layering.{ArePassed}
use Rattle.lucy_diagram.proofs.layers.found_of.Given as goal

abbrev pub invariant-each : goal.invariant-each
invariant-each l = ArePassed l.ways l.spares l.count l.number l.work
