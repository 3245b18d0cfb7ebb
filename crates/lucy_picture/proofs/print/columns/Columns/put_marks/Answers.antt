use Rattle.std.proofs.Common.{◌≡◌, ◌+◌, ◌++◌, Bool, false, List, ap, map, sym, ◌∙◌}
use Rattle.std.proofs.lemmas.List.{at_drop_more}
use Rattle.lucy_picture.specs.Lines.{cells, cell_text, mark_text}
use Rattle.lucy_picture.proofs.TextLaws.{piece_more}
use Rattle.lucy_picture.proofs.print.columns.Columns.put_marks.Goals as goal

pub each-preserved : goal.each-preserved
each-preserved c =
    let l = c.each in
    let turn = c.args.self.now.turn in
    let cell = c.args.self.now.cell in
    let further = λ (marks : List Bool). l.out.items ++ cells turn cell (l.i + 1) (map mark_text marks) in
    let text = c.as_bytes.ensures.value ∙ c.mark_text.ensures in
    piece_more _ _ _ _ _ (c.in_ok-put_cell.ensures ∙ ap (λ t. l.out.items ++ cell_text turn cell (l.i + 1) t) text)
    (sym (at_drop_more further c.args.marks.now l.i false c.each-test.true) ∙ l.invariant)
