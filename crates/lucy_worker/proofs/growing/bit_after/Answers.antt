use Rattle.std.proofs.Common.{ℕ, ◌+◌, ◌-◌, ◌/◌, ◌%◌, ◌<◌, ◌≤◌, refl, arith}
use Rattle.lucy_worker.proofs.GrowLaws.{early_cursor, late_cursor}
use Rattle.lucy_worker.proofs.growing.bit_after.Goals as goal

pub returns-then-fired-prefix : goal.returns-then-fired-prefix
returns-then-fired-prefix c =
    let prefix = c.lengths-prefix.ensures.prefix in
    let period = c.lengths-prefix.ensures.period in
    early_cursor c.args.word.now c.args.fired (c.args.fired + 1) refl (omega arith)

pub returns-else-fired-prefix : goal.returns-else-fired-prefix
returns-else-fired-prefix c =
    let prefix : ℕ = c.lengths-prefix.result.0 in
    let period : ℕ = c.lengths-prefix.result.1 in
    let some : 0 < period = c.lengths-prefix.ensures.nonempty in
    let past : prefix + period ≤ c.args.fired = c.if-fired-prefix.false in
    late_cursor c.args.word.now c.args.fired ((c.args.fired - prefix) / period) ((c.args.fired - prefix) % period) (prefix + (c.args.fired - prefix) % period + 1) prefix period c.lengths-prefix.ensures.prefix c.lengths-prefix.ensures.period (omega arith) (omega arith) refl
