use Rattle.lucy_rates.specs.Laying.{AreLaidOut}
use Rattle.lucy_rates.proofs.shaping.shapes.Given as goal

abbrev pub invariant-loop-clock : goal.invariant-loop-clock
invariant-loop-clock l = AreLaidOut l.is_base_used l.lead l.ones l.prefixes l.clock l.list.items l.first
