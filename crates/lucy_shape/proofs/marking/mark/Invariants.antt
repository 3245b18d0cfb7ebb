use Rattle.std.proofs.Common.{◌≡◌, length}
use Rattle.lucy_shape.proofs.marking.mark.Given as goal
use Rattle.lucy_shape.specs.Marking.{AreMarked}

abbrev pub invariant-loop-position : goal.invariant-loop-position
invariant-loop-position l = (length l.bits ≡ length l.fn.bits) × AreMarked l.from l.positions l.position-index l.bits
