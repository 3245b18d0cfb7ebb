use Rattle.std.proofs.Common.{ℕ, ◌+◌, ◌≡◌, ◌∷◌, ◌++◌, [], List, length, get_or, set, ap, sym, ◌∙◌, subst, arith}
use Rattle.std.proofs.lemmas.List.{length-set, length-replicate}
use Rattle.lucy_diagram.specs.Layering.{AreChained}
use Rattle.lucy_diagram.proofs.ListLaws.{whole}
use Rattle.lucy_diagram.proofs.LayeringLaws.{chained_none, chained_more}
use Rattle.lucy_diagram.proofs.layers.ways.chains_of.Goals as goal

pub each-init : goal.each-init
each-init c =
    let zeros = c.in_ok-last.ensures.items_if_clones_equal (λ y e. e) in (
      subst (λ (b : List ℕ). AreChained c.args.ways.now 0 c.in_ok-last.last.items b) (sym c.new-before.ensures.items) (chained_none c.args.ways.now c.in_ok-last.last.items c.args.count zeros),
      ap length zeros ∙ length-replicate c.args.count 0,
    )

pub each-preserved : goal.each-preserved
each-preserved c =
    let w = c.way_at.result.now in
    let old = c.each.last.items in
    let number : c.at.result ≡ get_or old w.from 0 = c.at.ensures ∙ ap (λ l. get_or l w.from 0) c.deref.ensures.value in
    let put : c.set.new.list ≡ set old w.from (c.each.i + 1) = c.set.ensures ∙ ap (λ l. set l w.from (c.each.i + 1)) c.deref_mut.ensures.value in
    let long : length c.set.new.list ≡ c.each.last.len = ap length put ∙ length-set old w.from (c.each.i + 1) ∙ sym c.each.last.ok.0 in
    let back = whole c.each.last.len c.set.new.list old long in (
      chained_more c.args.ways.now c.each.i w old c.each.before.items _ _ c.each.invariant.0 c.way_at.ensures (c.in_ok-push.ensures.items ∙ ap (λ n. c.each.before.items ++ n ∷ []) number) (back ∙ put),
      ap length (back ∙ put) ∙ length-set old w.from (c.each.i + 1) ∙ c.each.invariant.1,
    )

pub returns-clause-chained : goal.returns-clause-chained
returns-clause-chained c =
    let e : c.each.i ≡ length c.args.ways.now = omega arith in subst (λ (n : ℕ). AreChained c.args.ways.now n c.each.last.items c.each.before.items) e c.each.invariant.0
