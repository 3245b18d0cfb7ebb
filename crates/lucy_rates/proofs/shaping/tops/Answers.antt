use Rattle.std.proofs.Common.{◌≡◌, ℕ, List, length, get_or, replicate, ap, sym, ◌∙◌, subst, refl, arith}
use Rattle.std.proofs.lemmas.List.{length-replicate, get_or-replicate, take_at}
use Rattle.lucy_rates.specs.Laying.{AreTops}
use Rattle.lucy_rates.proofs.shaping.tops.Goals as goal

none : (roots vector list : List ℕ) (n : ℕ) → n ≡ length roots → list ≡ replicate n 0 → AreTops roots vector 0 list
none roots vector list n e f = record {
  size = ap length f ∙ length-replicate n 0 ∙ e;
  each = λ root l. ap (λ (x : List ℕ). get_or x root 0) f ∙ get_or-replicate n root 0 0 (omega arith);
}

pub raise_tops-requires-clause-none : goal.raise_tops-requires-clause-none
raise_tops-requires-clause-none c = none _ _ _ _ refl (c.deref_mut.ensures.value ∙ c.in_ok-list.ensures.items_if_clones_equal (λ y e. e))

pub returns-clause-ok : goal.returns-clause-ok
returns-clause-ok c =
    subst (AreTops c.args.roots.now c.args.vector.now (length c.args.roots.now))
    (sym (take_at c.raise_tops.new.tops _ c.in_ok-list.list.len (let kept = c.raise_tops.auto.tops in let same = c.deref_mut.ensures.len in omega arith))) c.raise_tops.ensures
