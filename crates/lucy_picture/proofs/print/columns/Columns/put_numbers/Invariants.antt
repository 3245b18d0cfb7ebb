use Rattle.std.proofs.Common.{◌≡◌, ◌+◌, ◌++◌, drop, map}
use Rattle.std.specs.Fmt.{decimal}
use Rattle.lucy_picture.specs.Lines.{cells}
use Rattle.lucy_picture.proofs.print.columns.Columns.put_numbers.Given as goal

abbrev pub invariant-each : goal.invariant-each
invariant-each l =
    l.out.items ++ cells l.self.turn l.self.cell (l.i + 1) (map decimal (drop l.i l.numbers))
    ≡ l.initial.out.items ++ cells l.self.turn l.self.cell 1 (map decimal l.numbers)
