use Rattle.std.proofs.Common.{◌≡◌, ◌+◌, ◌++◌, List, ℕ, map, sym, ◌∙◌}
use Rattle.std.proofs.lemmas.List.{at_drop_more}
use Rattle.std.specs.Fmt.{decimal}
use Rattle.lucy_picture.specs.Lines.{cells}
use Rattle.lucy_picture.proofs.TextLaws.{piece_more}
use Rattle.lucy_picture.proofs.print.columns.Columns.put_numbers.Goals as goal

pub each-preserved : goal.each-preserved
each-preserved c =
    let l = c.each in
    let further = λ (numbers : List ℕ). l.out.items ++ cells c.args.self.now.turn c.args.self.now.cell (l.i + 1) (map decimal numbers) in
    piece_more _ _ _ _ _ c.in_ok-put_number.ensures (sym (at_drop_more further c.args.numbers.now l.i 0 c.each-test.true) ∙ l.invariant)
