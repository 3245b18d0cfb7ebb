use Rattle.std.proofs.Common.{arith}
use Rattle.lucy_word.proofs.BitsLaws.{ones_to-prefix, ones_to-at, period_some}
use Rattle.lucy_word.proofs.word.Word.ones.Goals as goal

pub returns-then-i-len : goal.returns-then-i-len
returns-then-i-len c = grind (arith, ones_to-prefix)

pub returns : goal.returns
returns c =
    let some = period_some _ c.self.invariant.0 in
    let at = ones_to-at c.args.self.now c.args.i in
    grind (arith, at, some)
