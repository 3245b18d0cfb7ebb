use Rattle.std.proofs.Common.{take}
use Rattle.lucy_picture.specs.Holding.{Puts}
use Rattle.lucy_svg.specs.Sheets.{IsLaneName, fill_names}
use Rattle.lucy_svg.proofs.print.sheet.Sheet.put_buffer_names.Given as goal

abbrev pub invariant-each : goal.invariant-each
invariant-each l = Puts (IsLaneName l.self.side.node.now l.self.side.told) (fill_names (take l.i l.fills) (take l.i l.flows)) l.fn.out.items l.out.items
