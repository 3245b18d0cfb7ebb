use Rattle.lucy_flat.specs.Assembly.{AreRingsHeldSoFar}
use Rattle.lucy_flat.proofs.assemble.hold_rings.Given as goal

abbrev pub invariant-each : goal.invariant-each
invariant-each l = AreRingsHeldSoFar l.drafts l.to l.operand l.held
