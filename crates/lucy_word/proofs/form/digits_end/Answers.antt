use Rattle.std.proofs.Common.{sym, ◌∙◌}
use Rattle.lucy_word.proofs.StayLaws.{run_more}
use Rattle.lucy_word.proofs.form.digits_end.Goals as goal

pub digits-preserved : goal.digits-preserved
digits-preserved c = run_more c.args.text.now c.args.from c.digits.i c.digits.invariant c.digits-test.true (sym c.is_digit.ensures ∙ c.if-not-is_digit.false)
