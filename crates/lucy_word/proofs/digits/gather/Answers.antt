use Rattle.std.proofs.Common.{sym, ◌∙◌, arith}
use Rattle.lucy_word.proofs.DigitLaws.{digits_first, digits_more}
use Rattle.lucy_word.proofs.digits.gather.Goals as goal

pub loop-n-init : goal.loop-n-init
loop-n-init c = digits_first c.args.text.now

pub loop-n-preserved : goal.loop-n-preserved
loop-n-preserved c =
    digits_more c.args.text.now c.loop-n.n c.loop-n.limb c.from.result c.loop-n.invariant (omega arith) (omega arith) (sym c.is_digit.ensures ∙ c.if-not-is_digit.false) c.from.ensures
