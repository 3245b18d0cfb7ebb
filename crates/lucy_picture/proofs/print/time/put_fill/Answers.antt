use Rattle.std.proofs.Common.{◌++◌, Bool, List, ℕ, ap, ◌∙◌}
use Rattle.std.specs.Prelude.{codes}
use Rattle.lucy_word.proofs.Lists.{four}
use Rattle.lucy_picture.specs.Lines.{buffer_line, marks_text, numbers_text}
use Rattle.lucy_picture.proofs.TextLaws.{on_ok}
use Rattle.lucy_picture.proofs.print.time.put_fill.Goals as goal

pub returns : goal.returns
returns c =
    let at = c.args.columns.now in
    let goes_in = ap (λ (marks : List Bool). c.put_head.new.out.items ++ buffer_line at.margin (codes "in") (marks_text at.turn at.cell marks)) c.list.ensures in
    let comes_out = ap (λ (marks : List Bool). c.put_marks.new.out.items ++ buffer_line at.margin (codes "out") (marks_text at.turn at.cell marks)) c.list-2.ensures in
    let waits = ap (λ (ns : List ℕ). c.put_marks-2.new.out.items ++ buffer_line at.margin (codes "waiting") (numbers_text at.turn at.cell ns)) c.list-3.ensures in
    on_ok c.put_numbers.result _ _ c.put_numbers.ensures
    (λ e. four c.args.out.now.items c.put_head.new.out.items c.put_marks.new.out.items c.put_marks-2.new.out.items c.put_numbers.new.out.items _ _ _ _
    c.in_ok-put_head.ensures (c.in_ok-put_marks.ensures ∙ goes_in) (c.in_ok-put_marks-2.ensures ∙ comes_out) (e ∙ waits))
