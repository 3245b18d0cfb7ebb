use Rattle.std.proofs.Common.{◌≡◌, ◌+◌, ◌++◌, drop, map}
use Rattle.lucy_picture.specs.Lines.{cells, mark_text}
use Rattle.lucy_picture.proofs.print.columns.Columns.put_marks.Given as goal

abbrev pub invariant-each : goal.invariant-each
invariant-each l =
    l.out.items ++ cells l.self.turn l.self.cell (l.i + 1) (map mark_text (drop l.i l.marks))
    ≡ l.initial.out.items ++ cells l.self.turn l.self.cell 1 (map mark_text l.marks)
