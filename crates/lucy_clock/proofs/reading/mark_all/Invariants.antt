use Rattle.std.proofs.Common.{◌≡◌, length}
use Rattle.lucy_clock.specs.Reading.{AreReadersUpto}
use Rattle.lucy_clock.proofs.reading.mark_all.Given as goal

abbrev pub invariant-each : goal.invariant-each
invariant-each l = (length l.readers ≡ length l.node.places) × AreReadersUpto l.node l.i l.readers
