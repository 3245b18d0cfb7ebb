use Rattle.std.proofs.Common.{◌≡◌, length}
use Rattle.lucy_shape.proofs.positions.continue_from.Given as goal
use Rattle.lucy_shape.specs.Added.{AreFirsts}

abbrev pub invariant-loop-k : goal.invariant-loop-k
invariant-loop-k l = (length l.list ≡ length l.fn.list) × AreFirsts l.word l.k l.list
