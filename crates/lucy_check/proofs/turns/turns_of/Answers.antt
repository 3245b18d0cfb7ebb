use Rattle.std.proofs.Common.{◌*◌, ◌<◌, ◌≤◌, ◌≡◌, ℕ, ◌+◌, ◌-◌, ◌/◌, ◌%◌, ap, ◌∙◌, sym, arith}
use Rattle.std.proofs.Math.Nat.{div-add-mod, mod-lt, div-mul_cancel, le_of_mul-le-mul_right, mul-le-mul_left, pos_of_dvd_of_pos}
use Rattle.lucy_word.specs.Multiple.{IsLcm}
use Rattle.lucy_word.proofs.Multiples.{divides}
use Rattle.lucy_check.proofs.Remainders.{gcd_by_lcm}
use Rattle.lucy_check.proofs.turns.turns_of.Goals as goal

-- so many whole periods are no shorter than a step
long_enough : (period step : ℕ) → 0 < period → step ≤ ((step - 1) / period + 1) * period
long_enough period step some =
    let parts : period * ((step - 1) / period) + (step - 1) % period ≡ step - 1 = div-add-mod (step - 1) period in
    omega (arith, mod-lt (step - 1) some)

-- and longer by less than a period
not_longer : (period step : ℕ) → ((step - 1) / period + 1) * period ≤ step + period
not_longer period step =
    let parts : period * ((step - 1) / period) + (step - 1) % period ≡ step - 1 = div-add-mod (step - 1) period in
    omega arith

-- the steps in the least common multiple of turn and step
steps_in : (turn step common : ℕ) → IsLcm turn step common → common / step * step ≡ common / turn * turn
steps_in turn step common is = div-mul_cancel step is.of_right ∙ sym (div-mul_cancel turn is.of_left)

some_steps : (turn step common : ℕ) → IsLcm turn step common → 0 < common / step
some_steps turn step common is = pos_of_dvd_of_pos (divides (common / step) step common (let e : common / step * step ≡ common = div-mul_cancel step is.of_right in omega arith)) is.positive

few_steps : (turn step common : ℕ) → 0 < step → IsLcm turn step common → common ≤ turn * step → common / step ≤ turn
few_steps turn step common some is less =
    le_of_mul-le-mul_right (let e : common / step * step ≤ turn * step = omega (arith, div-mul_cancel step is.of_right) in e) some

pub nonzero_div-result : goal.nonzero_div-result
nonzero_div-result c = some_steps _ _ _ c.lcm.ensures.least

pub returns-clause-are : goal.returns-clause-are
returns-clause-are c =
    let period : ℕ = c.lengths-prefix_a.result.1 in
    let step : ℕ = c.lengths-prefix_b.result.1 in
    let periods : ℕ = (step - 1) / period + 1 in
    record {
      start = omega (arith, c.max.ensures, c.lengths-prefix_a.ensures.prefix, c.lengths-prefix_b.ensures.prefix);
      turn = record {
        start = omega (arith, c.max.ensures, c.lengths-prefix_a.ensures.prefix);
        periods = periods;
        turn = ap (λ n. periods * n) c.lengths-prefix_a.ensures.period;
        gain = ap (λ n. periods * n) c.rate-ones_a.ensures.ones;
      };
      step = c.lengths-prefix_b.ensures.period;
      cost = c.rate-cost.ensures.ones;
    }

pub returns-clause-round : goal.returns-clause-round
returns-clause-round c =
    let period : ℕ = c.lengths-prefix_a.result.1 in
    let step : ℕ = c.lengths-prefix_b.result.1 in
    let periods : ℕ = (step - 1) / period + 1 in
    let longer : step ≤ periods * period = long_enough period step c.lengths-prefix_a.ensures.nonempty in
    record {
      some = c.lengths-prefix_b.ensures.nonempty;
      longer = longer;
      together = (c.lcm.result / (periods * period), steps_in (periods * period) step c.lcm.result c.lcm.ensures.least);
      rounds = some_steps _ _ _ c.lcm.ensures.least;
      classes = gcd_by_lcm (periods * period) step c.lcm.result (omega (arith, c.lengths-prefix_b.ensures.nonempty)) c.lengths-prefix_b.ensures.nonempty c.lcm.ensures.least;
    }

pub returns-clause-short : goal.returns-clause-short
returns-clause-short c =
    let period : ℕ = c.lengths-prefix_a.result.1 in
    let step : ℕ = c.lengths-prefix_b.result.1 in
    let periods : ℕ = (step - 1) / period + 1 in
    let gain : periods * c.rate-ones_a.result.0 ≤ periods * period =
    mul-le-mul_left periods (let e : c.rate-ones_a.result.0 ≤ period = omega (arith, c.rate-ones_a.ensures.within, c.rate-ones_a.ensures.length, c.lengths-prefix_a.ensures.period) in e) in
    record {
      start = omega (arith, c.max.ensures, c.lengths-prefix_a.ensures.short, c.lengths-prefix_b.ensures.short);
      step = omega (arith, c.lengths-prefix_b.ensures.short);
      turn = omega (arith, not_longer period step, c.lengths-prefix_a.ensures.short, c.lengths-prefix_b.ensures.short);
      gain = gain;
      rounds = few_steps _ _ _ c.lengths-prefix_b.ensures.nonempty c.lcm.ensures.least c.lcm.ensures.within;
    }
