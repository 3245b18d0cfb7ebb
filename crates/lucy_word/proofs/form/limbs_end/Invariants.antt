use Rattle.std.proofs.Common.{length, ◌-◌}
use Rattle.lucy_word.specs.Cutting.{IsDigitRun}
use Rattle.lucy_word.proofs.form.limbs_end.Given as goal

abbrev pub invariant-limbs : goal.invariant-limbs
invariant-limbs l = IsDigitRun l.text l.fn.from l.i

abbrev pub decreases-limbs : goal.decreases-limbs
decreases-limbs l = length l.text - l.i
