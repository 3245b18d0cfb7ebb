use Rattle.std.proofs.Common.{◌∙◌, sym}
use Rattle.std.specs.Prelude.{slice_index}
use Rattle.std.proofs.lemmas.Result.{err_from_is_err_and}
use Rattle.lucy_rates.proofs.Raising.{period_none, period_more, common_large}
use Rattle.lucy_rates.proofs.shaping.common_period.Goals as goal

pub loop-clock-init : goal.loop-clock-init
loop-clock-init c = period_none c.args.is_base_used c.args.roots.now c.args.tops.now

pub loop-clock-preserved : goal.loop-clock-preserved
loop-clock-preserved c = period_more c.args.is_base_used c.args.roots.now c.args.tops.now c.loop-clock.clock c.loop-clock.period c.in_ok-period.period c.loop-clock.invariant
    (λ e. c.in_ok-period.ensures.least (c.is_used.ensures ∙ e)) (λ e. c.in_ok-period.ensures.same (c.is_used.ensures ∙ e)) c.in_ok-period.ensures.few

pub returns-in_err-period-clause-refused : goal.returns-in_err-period-clause-refused
returns-in_err-period-clause-refused c =
    let p = err_from_is_err_and c.from_residual.result c.from_residual.ensures.1 in
    rw (p.1, p.2) (
      c.in_err-period.ensures.refused.0,
      common_large c.args.is_base_used (λ i. slice_index c.args.tops.now (slice_index c.args.roots.now i)) c.loop-clock.clock _ c.loop-clock.period c.loop-clock-test.true c.loop-clock.invariant.common
          (c.requires.some c.loop-clock.clock c.loop-clock-test.true) (sym c.is_used.ensures ∙ c.in_err-period.ensures.refused.1) c.in_err-period.ensures.refused.2,
    )
