use Rattle.std.proofs.Common.{◌+◌, ◌++◌, ap, sym, ◌∙◌, arith}
use Rattle.lucy_make.proofs.Lines.{item_line, items_none, item_more, items_all}
use Rattle.lucy_make.proofs.input.made_input.Goals as goal

pub each-init : goal.each-init
each-init c = (let e = sym items_none in cc, omega arith)

pub each-preserved : goal.each-preserved
each-preserved c =
    (c.in_ok-add_line.ensures ∙ ap (λ u. u ++ item_line (c.each.before + 1)) c.each.invariant.0 ∙ item_more c.each.before, omega (arith, c.each-test.true))

pub returns : goal.returns
returns c = c.each.invariant.0 ∙ items_all c.each.before (omega (arith, c.each.invariant.1, c.each-test.false))
