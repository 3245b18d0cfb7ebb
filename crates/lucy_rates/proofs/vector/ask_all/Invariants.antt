use Rattle.lucy_rates.specs.Laying.{AreFactors}
use Rattle.lucy_rates.proofs.vector.ask_all.Given as goal

abbrev pub invariant-loop-need : goal.invariant-loop-need
invariant-loop-need l = AreFactors l.needs l.forest.roots.items l.forest.rates.items l.need-index l.factors
