use Rattle.std.proofs.Common.{List, length, get_or, ap, ◌∙◌, subst, arith}
use Rattle.std.specs.List.{All}
use Rattle.std.proofs.lemmas.List.{take_all}
use Rattle.std.proofs.lemmas.List.Elements.{All-more, recursion_from_All}
use Rattle.lucy_need.specs.declared.need.Need.{Need}
use Rattle.lucy_need.specs.Stored.{HasWords}
use Rattle.lucy_need.proofs.need.have_words.Goals as goal

pub loop-need-preserved : goal.loop-need-preserved
loop-need-preserved c =
    let i = c.loop-need.need-index in
    let t = c.loop-need-test.true in
    All-more HasWords c.args.needs.now i c.need-item.result (omega arith) c.loop-need.invariant (subst HasWords c.need-item.is c.has_words.ensures)

pub returns : goal.returns
returns c =
    let t = c.loop-need-test.false in
    recursion_from_All HasWords c.args.needs.now
    (subst (λ (l : List Need). All HasWords l) (take_all c.loop-need.need-index c.args.needs.now (omega arith)) c.loop-need.invariant)
