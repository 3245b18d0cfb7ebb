use Rattle.std.proofs.Common.{◌≡◌, arith}
use Rattle.std.proofs.lemmas.Bool.Decides.{nat_tests}
use Rattle.lucy_check.proofs.LentLaws.{always_from}
use Rattle.lucy_check.proofs.need.is_always.Goals as goal

pub returns-then-prefix-eq0-clause-is : goal.returns-then-prefix-eq0-clause-is
returns-then-prefix-eq0-clause-is c = λ e.
    let one : c.rate-period.result.1 ≡ 1 = grind (arith, nat_tests, e) in
    always_from c.args.word.now (omega (arith, c.lengths-prefix.ensures.prefix, c.if-prefix-eq0.true))
    (omega (arith, c.rate-period.ensures.length, one)) (omega (arith, c.rate-period.ensures.ones, c.rate-period.ensures.has_one))
