use Rattle.std.proofs.Common.{◌≡◌, ◌≤◌}
use Rattle.lucy_need.specs.Meeting.{word_bits}
use Rattle.lucy_clock.specs.Reading.{AreHandedSoFar}
use Rattle.lucy_clock.proofs.words.first_words.Given as goal

abbrev pub invariant-each : goal.invariant-each
invariant-each l = AreHandedSoFar l.node l.i l.words.items × (l.bits ≡ word_bits l.words.items) × (l.bits ≤ 269484032)
