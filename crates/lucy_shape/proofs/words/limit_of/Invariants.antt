use Rattle.lucy_shape.proofs.Completing.{NoneLong}
use Rattle.lucy_shape.proofs.words.limit_of.Given as goal

abbrev pub invariant-loop-clock : goal.invariant-loop-clock
invariant-loop-clock l = NoneLong l.fn.shape l.positions l.clock-index
