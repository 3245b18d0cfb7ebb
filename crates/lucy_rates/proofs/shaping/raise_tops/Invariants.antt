use Rattle.lucy_rates.specs.Laying.{AreTops}
use Rattle.lucy_rates.proofs.shaping.raise_tops.Given as goal

abbrev pub invariant-loop-clock : goal.invariant-loop-clock
invariant-loop-clock l = AreTops l.roots l.vector l.clock l.tops
