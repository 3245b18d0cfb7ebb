use Rattle.std.proofs.Common.{◌≡◌, take}
use Rattle.lucy_clock.specs.NodeClocks.{signatures}
use Rattle.lucy_clock.proofs.callers.signatures.Given as goal

abbrev pub invariant-each : goal.invariant-each
invariant-each l = l.above.items ≡ signatures (take l.callee l.placed.nodes) (take l.callee l.clocks)
