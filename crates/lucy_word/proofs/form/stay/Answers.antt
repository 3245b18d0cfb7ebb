use Rattle.std.proofs.Common.{sym, ◌∙◌, arith}
use Rattle.lucy_word.proofs.StayLaws.{run_first}
use Rattle.lucy_word.proofs.form.stay.Goals as goal

pub returns-then-at_digit : goal.returns-then-at_digit
returns-then-at_digit c = record { run = c.digits_end.ensures; behind = λ h. sym c.at_digit.ensures ∙ c.if-at_digit.true }

pub returns-else-at_digit : goal.returns-else-at_digit
returns-else-at_digit c = record { run = run_first c.args.text.now c.args.from; behind = λ h. absurd (omega (arith, h)) }
