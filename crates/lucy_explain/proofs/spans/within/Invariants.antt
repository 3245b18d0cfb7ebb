use Rattle.lucy_explain.specs.Spans.{AreWithin}
use Rattle.lucy_explain.proofs.spans.within.Given as goal

abbrev pub invariant-each : goal.invariant-each
invariant-each l = AreWithin l.bytes l.kept.items
