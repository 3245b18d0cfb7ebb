use Rattle.std.proofs.Common.{◌<◌, ◌≤◌, length, ap, sym, ◌∙◌, subst, arith}
use Rattle.std.specs.List.{AllByRecursion}
use Rattle.lucy_word.proofs.Lists.{all_weaker}
use Rattle.lucy_picture.specs.Charts.{named_places}
use Rattle.lucy_picture.proofs.ChartLaws.{places_within}
use Rattle.lucy_picture.proofs.chart.drawn.Goals as goal

pub rows-requires : goal.rows-requires
rows-requires c =
    let n = c.args.node.now in
    let words = ap length c.list.ensures ∙ c.requires.drawn.words in
    let places = c.deref.ensures.value ∙ c.in_ok-places.ensures in
    subst (λ ps. AllByRecursion (λ p. p < length c.list.result.now) ps) (sym places)
    (all_weaker (λ p. p ≤ length n.places) (λ p. p < length c.list.result.now) (named_places n) (λ p h. omega arith) (places_within n))
