use Rattle.std.proofs.Common.{◌+◌, ◌*◌, cond, sym, ap, ◌∙◌}
use Rattle.lucy_shape.proofs.RowCounts.{used_count}
use Rattle.lucy_shape.proofs.clocks.rows_of_clock.Goals as goal

pub returns-then-is_base : goal.returns-then-is_base
returns-then-is_base c period =
    let used = c.if-not-clock.false in
    let n = c.args.clock.now.lead + c.args.clock.now.ones in
    ap (λ b. cond b 3 2 * n) (sym c.if-is_base.true) ∙ sym (used_count period c.args.is_base c.args.clock.now used (c.requires used).some)

pub returns-else-is_base : goal.returns-else-is_base
returns-else-is_base c period =
    let used = c.if-not-clock.false in
    let n = c.args.clock.now.lead + c.args.clock.now.ones in
    ap (λ b. cond b 3 2 * n) (sym c.if-is_base.false) ∙ sym (used_count period c.args.is_base c.args.clock.now used (c.requires used).some)
