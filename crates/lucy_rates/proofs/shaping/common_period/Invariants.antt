use Rattle.lucy_rates.specs.Laying.{IsPeriodTo}
use Rattle.lucy_rates.proofs.shaping.common_period.Given as goal

abbrev pub invariant-loop-clock : goal.invariant-loop-clock
invariant-loop-clock l = IsPeriodTo l.is_base_used l.roots l.tops l.clock l.period
