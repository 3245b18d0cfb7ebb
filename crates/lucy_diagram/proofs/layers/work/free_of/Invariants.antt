use Rattle.lucy_diagram.specs.Layering.{AreFree}
use Rattle.lucy_diagram.proofs.layers.work.free_of.Given as goal

abbrev pub invariant-each : goal.invariant-each
invariant-each l = AreFree l.found l.waits l.place l.free.items
