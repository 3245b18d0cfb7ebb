use Rattle.std.proofs.Common.{◌≡◌, ◌+◌, Some, ap, ◌∙◌, sym, refl, subst}
use Rattle.lucy_place.specs.Standing.{at_one}
use Rattle.std.specs.Option.{unwrap_or}
use Rattle.lucy_picture.specs.Drawn.{IsFirstWith}
use Rattle.lucy_picture.proofs.FillLaws.{fill_is}
use Rattle.lucy_picture.proofs.fill.fill_at.Goals as goal

pub returns : goal.returns
returns c =
    let place = subst (λ bs. at_one bs (c.args.number + 1) ≡ Some c.place_of-place.result) c.list-buffers.ensures c.place_of-place.ensures in
    let operand = c.unwrap_or-operand.ensures ∙ ap (λ o. unwrap_or o 0) c.first_operand.ensures in
    let found = subst (λ l. IsFirstWith l c.size_of-size.result c.first_with-full.result) (c.deref.ensures.value ∙ sym c.new-3.ensures) c.first_with-full.ensures in
    fill_is c.requires.proper.0 c.args.node.now c.args.clock.now c.args.shown c.args.number _ _ _ _ c.requires.proper.1 c.requires.drawn c.list-words.ensures c.word_of-write.ensures c.word_of-read.ensures refl place operand c.size_of-size.ensures
    c.in_ok-new.ensures c.in_ok-new-2.ensures (c.new-3.ensures ∙ c.in_ok-list.ensures) found
