use Rattle.std.proofs.Common.{arith}
use Rattle.lucy_word.proofs.DigitLaws.{whole_digits}
use Rattle.lucy_word.proofs.digits.whole.Goals as goal

pub returns-then-equal_to-ones : goal.returns-then-equal_to-ones
returns-then-equal_to-ones c =
    whole_digits c.args.text.now c.args.at c.equal_to.result c.equal_to-ones.result (omega (arith, c.saturating_sub.ensures)) (omega arith) c.equal_to.ensures c.equal_to-ones.ensures c.if-equal_to-ones.true
