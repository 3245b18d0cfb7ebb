use Rattle.std.proofs.Common.{inr, rules}
use Rattle.std.specs.Prelude.{Ok}
use Rattle.lucy_word.specs.Bits.{Bits}
use Rattle.lucy_word.specs.Making.{IsMade}
use Rattle.lucy_word.proofs.MakingLaws.{makes_one}
use Rattle.lucy_word.proofs.word.Word.from_bits.Goals as goal

pub returns-clause-only : goal.returns-clause-only
returns-clause-only c answer makes =
    let bits : Bits = record { prefix = c.args.prefix.now; period = c.args.period.now } in
    let made : IsMade bits c.in_ok-shortest.field-0 = search rules in
    inr (makes_one bits (Ok c.in_ok-shortest.field-0) answer made makes)
