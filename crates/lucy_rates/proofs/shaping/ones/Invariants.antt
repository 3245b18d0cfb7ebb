use Rattle.lucy_rates.specs.Laying.{AreOnes}
use Rattle.lucy_rates.proofs.shaping.ones.Given as goal

abbrev pub invariant-loop-clock : goal.invariant-loop-clock
invariant-loop-clock l = AreOnes l.roots l.vector l.tops l.period l.clock l.list.items
