use Rattle.std.proofs.Common.{◌≡◌, ◌+◌}
use Rattle.lucy_need.specs.Meeting.{word_bits}
use Rattle.lucy_shape.proofs.words.words_of.Given as goal
use Rattle.lucy_shape.specs.Marking.{AreWordsSoFar}
use Rattle.lucy_shape.specs.Writing.{most_word_bits}

abbrev pub invariant-loop-clock : goal.invariant-loop-clock
invariant-loop-clock l = AreWordsSoFar l.fn.shape l.positions l.clock-index l.words.items × (l.left + word_bits l.words.items ≡ most_word_bits)
