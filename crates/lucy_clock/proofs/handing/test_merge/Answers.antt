use Rattle.std.proofs.Common.{◌≡◌, ◌∙◌, true, false, sym}
use Rattle.lucy_clock.proofs.HandingLaws.{turned_long}
use Rattle.lucy_clock.proofs.handing.test_merge.Goals as goal

pub returns-clause-second : goal.returns-clause-second
returns-clause-second c = λ long.
    let t = c.is_too_long.ensures.1 (turned_long c.args.own.now c.args.word.now long) in
    let e : false ≡ true = sym c.if-is_too_long.false ∙ t in
    cc e
