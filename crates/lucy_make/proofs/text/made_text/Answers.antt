use Rattle.std.proofs.Common.{◌≡◌, ◌+◌, ◌++◌, ap, ◌∙◌, arith}
use Rattle.lucy_make.specs.Text.{stage_line, stage_lines}
use Rattle.lucy_make.proofs.Lines.{text_with, stage_more}
use Rattle.lucy_make.proofs.text.made_text.Goals as goal

pub each-preserved : goal.each-preserved
each-preserved c =
    (c.in_ok-add_line.ensures ∙ ap (λ u. u ++ stage_line (c.each.before + 1)) c.each.invariant.0 ∙ stage_more c.args.stages c.each.before, omega (arith, c.each-test.true))

pub returns : goal.returns
returns c =
    let all : c.each.before ≡ c.args.stages = omega (arith, c.each.invariant.1, c.each-test.false) in
    c.each.invariant.0 ∙ ap (λ n. text_with c.args.stages (stage_lines n)) all
