use Rattle.std.proofs.Common.{length, ◌-◌}
use Rattle.lucy_word.proofs.Checking.{Checked}
use Rattle.lucy_word.proofs.form.check.Given as goal

abbrev pub invariant-bytes : goal.invariant-bytes
invariant-bytes l = Checked l.text l.i l.from l.zero l.stage

abbrev pub decreases-bytes : goal.decreases-bytes
decreases-bytes l = length l.text - l.i
