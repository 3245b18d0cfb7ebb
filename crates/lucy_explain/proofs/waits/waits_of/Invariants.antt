use Rattle.std.proofs.Common.{◌≡◌, length}
use Rattle.lucy_explain.specs.Waits.{AreWaits}
use Rattle.lucy_explain.proofs.waits.waits_of.Given as goal

abbrev pub invariant-each : goal.invariant-each
invariant-each l = AreWaits l.write l.read l.waits.items × (length l.waits.items ≡ l.i)
