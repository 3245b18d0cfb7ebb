use Rattle.lucy_flat.specs.Drafts.{AreOutputsKept}
use Rattle.lucy_flat.proofs.flattening.put_outputs.Given as goal

abbrev pub invariant-each : goal.invariant-each
invariant-each l = AreOutputsKept l.program.placed.now.nodes l.program.clocks.now l.i l.kept
