use Rattle.std.proofs.Common.{◌∙◌}
use Rattle.lucy_word.proofs.DigitLaws.{none_alone, but_one}
use Rattle.lucy_word.proofs.digits.alone.Goals as goal

pub returns-then-not-has_run-clause-alone : goal.returns-then-not-has_run-clause-alone
returns-then-not-has_run-clause-alone c = none_alone c.args.text.now

pub returns-then-byte_at-ne123-clause-alone : goal.returns-then-byte_at-ne123-clause-alone
returns-then-byte_at-ne123-clause-alone c = record { are = c.front-all.ensures.digits; last = λ some e. c.if-byte_at-ne123.true (c.byte_at.ensures ∙ e) }

pub returns-clause-alone : goal.returns-clause-alone
returns-clause-alone c = but_one c.args.text.now c.front-all.result.n c.front-all.result.limb c.saturating_sub-n.result c.cut.result c.front-all.ensures.digits c.saturating_sub-n.ensures c.cut.ensures
