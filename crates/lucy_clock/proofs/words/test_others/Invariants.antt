use Rattle.lucy_need.specs.Meeting.{word_bits}
use Rattle.lucy_clock.specs.Reading.{AreKeptSoFar}
use Rattle.lucy_clock.proofs.words.test_others.Given as goal

abbrev pub invariant-each : goal.invariant-each
invariant-each l = AreKeptSoFar l.node l.lasts.items l.i (word_bits l.fn.first.items) l.words.items
