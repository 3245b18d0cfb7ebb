use Rattle.std.proofs.Common.{ℕ, ◌≡◌}
use Rattle.lucy_word.specs.Bits.{Bits}
use Rattle.lucy_picture.specs.Charts.{marks_of}
use Rattle.lucy_svg.specs.Ones.{AreOnes}
use Rattle.lucy_svg.proofs.ones.ones.Given as goal

abbrev pub invariant-each : goal.invariant-each
invariant-each l = (w : Bits) (shown : ℕ) → l.marks ≡ marks_of w shown → AreOnes w l.i l.instants.items
