use Rattle.std.proofs.Common.{ℕ, ◌≡◌, ◌≤◌}
use Rattle.lucy_word.specs.Bits.{Bits, ones_to}
use Rattle.lucy_picture.specs.Charts.{marks_of}
use Rattle.lucy_svg.specs.Flows.{counts_of}
use Rattle.lucy_svg.proofs.ones.counts.Given as goal

abbrev pub invariant-each : goal.invariant-each
invariant-each l = (l.count ≤ l.i) × ((w : Bits) (shown : ℕ) → l.marks ≡ marks_of w shown →
    (l.count ≡ ones_to w l.i) × (l.counts.items ≡ counts_of w l.i))
