use Rattle.std.proofs.Common.{◌∙◌, length, sym, subst, arith}
use Rattle.std.proofs.lemmas.List.{take_at}
use Rattle.lucy_rates.specs.Laying.{AreFactors}
use Rattle.lucy_rates.proofs.Asking.{factors_none}
use Rattle.lucy_rates.proofs.vector.factors.Goals as goal

pub ask_all-requires-clause-none : goal.ask_all-requires-clause-none
ask_all-requires-clause-none c = subst (AreFactors c.args.needs.now c.args.forest.now.roots.items c.args.forest.now.rates.items 0) (sym (c.deref_mut.ensures.value ∙ c.in_ok-list.ensures.items_if_clones_equal (λ y e. e)))
    (factors_none c.args.needs.now c.args.forest.now.roots.items c.args.forest.now.rates.items c.len.result (let l = c.len.ensures in omega arith))

pub returns-clause-ok : goal.returns-clause-ok
returns-clause-ok c =
    subst (AreFactors c.args.needs.now c.args.forest.now.roots.items c.args.forest.now.rates.items (length c.args.needs.now))
    (sym (take_at c.ask_all.new.factors _ c.in_ok-list.list.len (let kept = c.ask_all.auto.factors in let same = c.deref_mut.ensures.len in omega arith))) c.in_ok-ask_all.ensures.ok
