use Rattle.lucy_rates.specs.Laying.{AreMultiplied}
use Rattle.lucy_rates.proofs.vector.vector.Given as goal

abbrev pub invariant-loop-clock : goal.invariant-loop-clock
invariant-loop-clock l = AreMultiplied l.forest.roots.items l.forest.rates.items l.factors l.clock l.list.items
