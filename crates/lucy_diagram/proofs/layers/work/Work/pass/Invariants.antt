use Rattle.std.proofs.Common.{◌≡◌}
use Rattle.lucy_diagram.specs.Layering.{IsPassing}
use Rattle.lucy_diagram.proofs.layers.work.Work.pass.Given as goal

abbrev pub invariant-each : goal.invariant-each
invariant-each l = IsPassing l.ways l.place l.number l.layer l.self × (l.self.found.items ≡ l.initial.self.found.items)

abbrev pub decreases-each : goal.decreases-each
decreases-each l = l.number
