use Rattle.std.proofs.Common.{◌++◌, [], ◌∷◌, get_or, map, take, ap, sym, ◌∙◌, arith}
use Rattle.std.proofs.lemmas.List.{map_more}
use Rattle.lucy_kahn.specs.Turns.{own_at}
use Rattle.lucy_kahn.proofs.OwnLaws.{at_is}
use Rattle.lucy_kahn.proofs.interpreter.results.Goals as goal

pub each-preserved : goal.each-preserved
each-preserved c =
    let place = get_or c.args.places.now c.each.i 0 in
    c.in_ok-add.ensures.ok ∙ ap (λ gs. gs ++ c.at.result.now ∷ []) c.each.invariant
    ∙ ap (λ y. map (own_at c.args.own.now) (take c.each.i c.args.places.now) ++ y ∷ []) (at_is c.args.own.now place c.at.result.now c.at.ensures)
    ∙ sym (map_more (own_at c.args.own.now) c.args.places.now c.each.i 0 (omega arith))
