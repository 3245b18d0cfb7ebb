use Rattle.std.proofs.Common.{ℕ, List, length, inr, subst}
use Rattle.std.specs.Prelude.{slice_index}
use Rattle.std.proofs.lemmas.Result.{err_from_is_err_and}
use Rattle.lucy_rates.specs.Laying.{HasLargeCommon}
use Rattle.lucy_rates.proofs.shaping.counted_ones.Goals as goal

pub returns-in_err-period-clause-refused : goal.returns-in_err-period-clause-refused
returns-in_err-period-clause-refused c =
    let roots = c.args.roots.now in
    let why = c.in_err-period.ensures.refused in
    let p = err_from_is_err_and c.from_residual-in_err-period.result c.from_residual-in_err-period.ensures.1 in
    let large = subst (λ (z : List ℕ). HasLargeCommon c.args.is_base_used (λ clock. slice_index z (slice_index roots clock)) (length roots)) c.deref.ensures.value why.1 in
    rw (p.1, p.2) (inr (why.0, (c.in_ok-tops.tops.items, c.in_ok-tops.ensures.ok, large)))
