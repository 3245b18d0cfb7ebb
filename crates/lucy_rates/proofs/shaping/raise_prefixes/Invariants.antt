use Rattle.std.specs.Prelude.{length}
use Rattle.lucy_rates.specs.Laying.{AreLongest}
use Rattle.lucy_rates.proofs.shaping.raise_prefixes.Given as goal

abbrev pub invariant-loop-need : goal.invariant-loop-need
invariant-loop-need l = AreLongest l.needs (length l.fn.prefixes) l.need-index l.prefixes
