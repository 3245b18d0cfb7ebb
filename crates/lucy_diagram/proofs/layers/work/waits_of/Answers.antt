use Rattle.std.proofs.Common.{ℕ, ◌+◌, ◌<◌, ◌≡◌, List, length, get_or, set, take, ap, sym, ◌∙◌, subst, arith}
use Rattle.std.proofs.lemmas.List.{length-set, length-replicate}
use Rattle.lucy_diagram.specs.Layering.{count_to}
use Rattle.lucy_diagram.proofs.ListLaws.{whole}
use Rattle.lucy_diagram.proofs.LayeringLaws.{counted_more, count_fits, zero_at}
use Rattle.lucy_diagram.proofs.layers.work.waits_of.Goals as goal

pub each-init : goal.each-init
each-init c =
    let zeros = c.in_ok-waits.ensures.items_if_clones_equal (λ y e. e) in (
      ap length zeros ∙ length-replicate c.args.count 0,
      λ q l. ap (λ w. get_or w q 0) zeros ∙ zero_at c.args.count q,
    )

pub overflow_add-number : goal.overflow_add-number
overflow_add-number c =
    let old = c.each.waits.items in
    let to = c.way_at.result.now.to in
    let number : c.at-number.result ≡ get_or old to 0 = c.at-number.ensures ∙ ap (λ l. get_or l to 0) c.deref.ensures.value in
    let fits = count_fits c.args.ways.now c.each.i c.args.count to old c.each.invariant.0 c.each.invariant.1 in omega arith

pub each-preserved : goal.each-preserved
each-preserved c =
    let old = c.each.waits.items in
    let to = c.way_at.result.now.to in
    let number : c.at-number.result ≡ get_or old to 0 = c.at-number.ensures ∙ ap (λ l. get_or l to 0) c.deref.ensures.value in
    let put : c.set.new.list ≡ set old to (get_or old to 0 + 1) = c.set.ensures ∙ ap (λ l. set l to (c.at-number.result + 1)) c.deref_mut.ensures.value ∙ ap (λ n. set old to (n + 1)) number in
    let long : length c.set.new.list ≡ c.each.waits.len = ap length put ∙ length-set old to (get_or old to 0 + 1) ∙ sym c.each.waits.ok.0 in
    subst (λ (l : List ℕ). (length l ≡ c.args.count) × ((q : ℕ) → q < c.args.count → get_or l q 0 ≡ count_to q (take (c.each.i + 1) c.args.ways.now))) (sym (whole c.each.waits.len c.set.new.list old long))
    (counted_more c.args.ways.now c.each.i c.args.count c.way_at.result.now old c.set.new.list c.way_at.ensures c.each.invariant.0 c.each.invariant.1 put)
