use Rattle.std.proofs.Common.{◌++◌, [], ◌∷◌, get_or, set, take, ap, sym, ◌∙◌, arith, rules}
use Rattle.std.specs.Prelude.{pos, slice_index_or}
use Rattle.std.specs.Int.{w64}
use mir.Val.{SFits}
use Rattle.std.proofs.lemmas.Int.{to_z-of_z}
use Rattle.std.proofs.lemmas.List.{take_more}
use Rattle.lucy_kahn.proofs.OwnLaws.{grown_last}
use Rattle.lucy_wave.proofs.playing.add.Goals as goal

pub each-preserved : goal.each-preserved
each-preserved c =
    let item = get_or c.args.list.now c.each.item-index (pos 0) in
    let fits : SFits w64 (get_or c.args.list.now c.each.item-index (pos 0)) = search rules in
    let told = simp to_z-of_z at c.in_ok-push.ensures.ok in
    told ∙ ap (λ gs. set gs c.args.number (slice_index_or gs c.args.number [] ++ item ∷ [])) c.each.invariant
    ∙ grown_last c.args.lists.now (take c.each.item-index c.args.list.now) c.args.number item c.requires.next
    ∙ ap (λ t. c.args.lists.now ++ t ∷ []) (sym (take_more c.args.list.now c.each.item-index (pos 0) (omega arith)))
