use Rattle.std.proofs.Common.{◌≡◌, ◌+◌, ◌++◌, ◌∷◌, [], drop, ap, sym, ◌∙◌, append_assoc}
use Rattle.lucy_word.proofs.Lists.{drop_next}
use Rattle.lucy_diagram.specs.Diagrams.{drawn_from}
use Rattle.lucy_diagram.proofs.place.places.Goals as goal

pub each-preserved : goal.each-preserved
each-preserved c =
    let l = c.each in
    let all = c.list-entry-items.result.now in
    let next = drop_next all l.i c.entry-item.result c.each-test.true c.entry-item.is in
    let put = c.in_ok-push.ensures.items ∙ ap (λ f. l.places.items ++ record { place = l.i + 1; figure = f } ∷ []) c.figure_of-figure.ensures in
    ap (λ ps. ps ++ drawn_from (l.i + 1 + 1) (drop (l.i + 1) all)) put ∙ append_assoc l.places.items _ _
    ∙ ap (λ es. l.places.items ++ drawn_from (l.i + 1) es) (sym next) ∙ l.invariant
