use Rattle.std.proofs.Common.{◌≡◌}
use Rattle.lucy_picture.specs.Charts.{marks_of}
use Rattle.lucy_picture.proofs.marks.bits.Given as goal

abbrev pub invariant-each : goal.invariant-each
invariant-each l = l.marks.items ≡ marks_of l.word l.i
