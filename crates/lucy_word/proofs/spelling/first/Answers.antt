use Rattle.std.proofs.Common.{arith}
use Rattle.lucy_word.proofs.CuttingLaws.{adds_item, ones_within}
use Rattle.lucy_word.proofs.DigitLaws.{adds_digits, ones_few}
use Rattle.lucy_word.proofs.spelling.first.Goals as goal

pub returns-then-digits-gt0-clause-sums : goal.returns-then-digits-gt0-clause-sums
returns-then-digits-gt0-clause-sums c =
    adds_digits c.args.items.now c.alone-digits.result.n c.alone-digits.result.limb c.from-ones.result c.split_at.result.1.now c.alone-digits.ensures.alone c.if-digits-gt0.true c.from-ones.ensures c.split_at.ensures.back

pub returns-then-digits-gt0-clause-within : goal.returns-then-digits-gt0-clause-within
returns-then-digits-gt0-clause-within c = omega (arith, ones_few c.args.items.now c.alone-digits.result.n c.alone-digits.result.limb c.alone-digits.ensures.alone, c.from-ones.ensures)

pub returns-clause-sums : goal.returns-clause-sums
returns-clause-sums c =
    adds_item c.args.items.now c.in-Some.c.now c.in-Some.more.now c.times-bits.result.0 c.ones_of-ones.result c.times-bits.result.1.now c.in-Some.ensures.cases.0 c.times-bits.ensures.times c.ones_of-ones.ensures

pub returns-clause-within : goal.returns-clause-within
returns-clause-within c = omega (arith, ones_within c.in-Some.c.now c.times-bits.result.0, c.ones_of-ones.ensures)
