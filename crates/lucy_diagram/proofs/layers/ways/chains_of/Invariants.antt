use Rattle.std.proofs.Common.{◌≡◌, length}
use Rattle.lucy_diagram.specs.Layering.{AreChained}
use Rattle.lucy_diagram.proofs.layers.ways.chains_of.Given as goal

abbrev pub invariant-each : goal.invariant-each
invariant-each l = AreChained l.ways l.i l.last.items l.before.items × (length l.last.items ≡ l.count)
