use Rattle.std.proofs.Common.{map, take}
use Rattle.lucy_picture.specs.Holding.{Puts}
use Rattle.lucy_svg.specs.Sheets.{IsLaneName, row_name}
use Rattle.lucy_svg.proofs.print.sheet.Sheet.put_row_names.Given as goal

abbrev pub invariant-each : goal.invariant-each
invariant-each l = Puts (IsLaneName l.self.side.node.now l.self.side.told) (map row_name (take l.i l.rows)) l.fn.out.items l.out.items
