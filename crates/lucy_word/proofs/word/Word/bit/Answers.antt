use Rattle.std.proofs.Common.{arith}
use Rattle.std.proofs.lemmas.List.{get_or_read}
use Rattle.lucy_word.proofs.BitsLaws.{bit_at-prefix, bit_at-period, period_some}
use Rattle.lucy_word.proofs.word.Word.bit.Goals as goal

pub returns-then-i-len : goal.returns-then-i-len
returns-then-i-len c = grind (arith, bit_at-prefix, get_or_read)

pub returns-else-i-len : goal.returns-else-i-len
returns-else-i-len c =
    let some = period_some _ c.self.invariant.0 in
    grind (arith, bit_at-period, get_or_read, some)
