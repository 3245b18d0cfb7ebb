use Rattle.std.proofs.Common.{refl}
use Rattle.lucy_clock.proofs.KeptLaws.{kept_set}
use Rattle.lucy_clock.proofs.words.let_go.Goals as goal

pub returns-in_ok-words-clause-ok : goal.returns-in_ok-words-clause-ok
returns-in_ok-words-clause-ok c = λ n are.
    kept_set n c.args.upto c.args.clock c.args.lasts.now c.args.words.now.items _ c.in_ok-words.field-0 are c.if-lasts-clock.true refl
