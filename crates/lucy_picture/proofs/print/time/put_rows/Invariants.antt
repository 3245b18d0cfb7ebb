use Rattle.std.proofs.Common.{◌≡◌, ◌++◌, drop}
use Rattle.std.specs.Prelude.{flat_map}
use Rattle.lucy_picture.specs.Lines.{row_text}
use Rattle.lucy_picture.proofs.print.time.put_rows.Given as goal

abbrev pub invariant-each : goal.invariant-each
invariant-each l =
    let text = row_text l.node l.words l.columns.turn l.columns.cell l.columns.margin in
    l.out.items ++ flat_map text (drop l.row-index l.rows) ≡ l.initial.out.items ++ flat_map text l.rows
