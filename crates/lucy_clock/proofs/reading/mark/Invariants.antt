use Rattle.std.proofs.Common.{take}
use Rattle.lucy_clock.specs.Reading.{Marks}
use Rattle.lucy_clock.proofs.reading.mark.Given as goal

abbrev pub invariant-each : goal.invariant-each
invariant-each l = Marks l.place (take l.operand-index l.operands) l.initial.readers l.readers
