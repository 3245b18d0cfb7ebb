use Rattle.std.proofs.Common.{◌∙◌, ◌+◌, List, inr, refl, sym, subst, arith}
use Rattle.std.proofs.lemmas.Result.{err_from_is_err_and}
use Rattle.lucy_shape.specs.declared.shape.ClockShape.{ClockShape}
use Rattle.lucy_rates.specs.Laying.{AreLaidOut}
use Rattle.lucy_rates.proofs.Layouts.{laid_next, laid_many}
use Rattle.lucy_rates.proofs.shaping.shapes.Goals as goal

pub loop-clock-preserved : goal.loop-clock-preserved
loop-clock-preserved c =
    let P : List ClockShape → Type 0 = λ z. AreLaidOut c.args.is_base_used c.args.lead c.args.ones.now c.args.prefixes.now (c.loop-clock.clock + 1) z (c.loop-clock.first + (c.in_ok-shape.shape.lead + c.in_ok-shape.shape.ones)) in
    subst P (sym c.in_ok-push.ensures.items)
    (laid_next c.args.is_base_used c.args.lead c.args.ones.now c.args.prefixes.now c.loop-clock.clock c.loop-clock.list.items c.loop-clock.first _ c.in_ok-shape.shape c.loop-clock.invariant
    (λ e. c.in_ok-shape.ensures.used (c.is_used.ensures ∙ e)) (λ e. c.in_ok-shape.ensures.unused (c.is_used.ensures ∙ e)) refl (let f = c.in_ok-shape.ensures.few in omega arith))

pub returns-in_err-shape-clause-refused : goal.returns-in_err-shape-clause-refused
returns-in_err-shape-clause-refused c =
    let p = err_from_is_err_and c.from_residual.result c.from_residual.ensures.1 in
    rw (p.1, p.2) (inr (
      c.in_err-shape.ensures.refused.0,
      laid_many c.args.is_base_used c.args.lead c.args.ones.now c.args.prefixes.now c.loop-clock.clock _ c.loop-clock.list.items c.loop-clock.first c.loop-clock-test.true c.loop-clock.invariant
          (sym c.is_used.ensures ∙ c.in_err-shape.ensures.refused.1) c.in_err-shape.ensures.refused.2,
    ))
