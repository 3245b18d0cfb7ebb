use Rattle.std.proofs.Common.{length, ◌-◌}
use Rattle.lucy_word.specs.Cutting.{IsDigitRun}
use Rattle.lucy_word.proofs.form.digits_end.Given as goal

abbrev pub invariant-digits : goal.invariant-digits
invariant-digits l = IsDigitRun l.text l.fn.from l.i

abbrev pub decreases-digits : goal.decreases-digits
decreases-digits l = length l.text - l.i
