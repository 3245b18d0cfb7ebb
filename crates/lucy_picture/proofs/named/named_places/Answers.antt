use Rattle.std.proofs.Common.{◌≡◌, ◌+◌, ◌++◌, ap, sym, ◌∙◌}
use Rattle.lucy_word.proofs.Lists.{drop_next}
use Rattle.lucy_picture.specs.Charts.{named_from}
use Rattle.lucy_picture.proofs.TextLaws.{piece_more}
use Rattle.lucy_picture.proofs.named.named_places.Goals as goal

pub each-preserved : goal.each-preserved
each-preserved c =
    let l = c.each in
    let next = drop_next c.list-entry-items.result.now l.i c.entry-item.result c.each-test.true c.entry-item.is in
    piece_more _ _ _ _ _ c.in_ok-put_named.ensures (ap (λ es. l.places.items ++ named_from (l.i + 1) es) (sym next) ∙ l.invariant)
