use Rattle.std.proofs.Common.{length, get_or, sym, subst, inl, inr, rules, below_more, FitsSigned, w64, pos, lit<, arith}
use Rattle.std.proofs.lemmas.Bool.{cases_lt}
use Rattle.std.proofs.lemmas.List.{get_or_past}
use Rattle.lucy_wave.proofs.gathering.are_numbers.Goals as goal

pub each-preserved : goal.each-preserved
each-preserved c =
    let here : FitsSigned w64 (get_or c.args.items.now c.each.item-index (pos 0)) = search rules in
    below_more _ _ c.each.invariant here

pub returns : goal.returns
returns c = λ i. elim (cases_lt i (length c.args.items.now)) [
  | inl low ↦ c.each.invariant i (omega (arith, low, c.each-test.false))
  | inr high ↦ subst (FitsSigned w64) (sym (get_or_past c.args.items.now i (pos 0) high)) (record { sfits = lit< tt })
]
