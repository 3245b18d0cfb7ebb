use Rattle.std.proofs.Common.{take}
use Rattle.lucy_picture.specs.Holding.{Puts}
use Rattle.lucy_svg.specs.Sheets.{IsLane, fill_lanes}
use Rattle.lucy_svg.proofs.print.sheet.Sheet.put_fills.Given as goal

abbrev pub invariant-each : goal.invariant-each
invariant-each l = Puts (IsLane l.self.lanes.cell) (fill_lanes (take l.i l.fills) (take l.i l.flows)) l.fn.out.items l.out.items
