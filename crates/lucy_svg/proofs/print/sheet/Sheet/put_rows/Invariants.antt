use Rattle.std.proofs.Common.{map, take}
use Rattle.lucy_picture.specs.Holding.{Puts}
use Rattle.lucy_svg.specs.Sheets.{IsLane, row_lane}
use Rattle.lucy_svg.proofs.print.sheet.Sheet.put_rows.Given as goal

abbrev pub invariant-each : goal.invariant-each
invariant-each l = Puts (IsLane l.self.lanes.cell) (map row_lane (take l.i l.rows)) l.fn.out.items l.out.items
