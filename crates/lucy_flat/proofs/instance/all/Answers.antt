use Rattle.std.proofs.Common.{ℕ, ◌+◌, ◌-◌, ◌++◌, ◌∷◌, [], map, take, get_or, ap, sym, ◌∙◌}
use Rattle.std.proofs.lemmas.List.{take_more, map-append}
use Rattle.lucy_flat.proofs.instance.all.Goals as goal

pub each-preserved : goal.each-preserved
each-preserved c =
    let actor : ℕ → ℕ = λ place. c.args.begin + (place - 1) in
    let before = take c.each.place-index c.args.places.now in
    let place : ℕ = get_or c.args.places.now c.each.place-index 0 in
    c.in_ok-push.ensures.items ∙ ap (λ l. l ++ c.actor.result ∷ []) c.each.invariant ∙ ap (λ n. map actor before ++ n ∷ []) c.actor.ensures
    ∙ sym (ap (map actor) (take_more c.args.places.now c.each.place-index 0 c.each-test.true) ∙ map-append actor before (place ∷ []))
