use Rattle.std.proofs.Common.{arith}
use Rattle.lucy_word.proofs.ShortLaws.{one_by_same}
use Rattle.lucy_word.proofs.word.Word.shortest.Goals as goal

pub invariant_of-result : goal.invariant_of-result
invariant_of-result c =
    let is = c.in_ok-prefix.ensures.form in
    (record { has_one = one_by_same _ _ is.same is.nonempty c.requires.has_one }, omega (arith, c.in_ok-prefix.ensures.prefix, c.in_ok-prefix.ensures.period), is.shortest)
