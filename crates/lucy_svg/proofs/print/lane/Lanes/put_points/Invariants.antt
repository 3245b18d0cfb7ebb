use Rattle.std.proofs.Common.{◌≡◌, ◌+◌, ◌++◌, drop}
use Rattle.lucy_svg.specs.Sheets.{points}
use Rattle.lucy_svg.proofs.print.lane.Lanes.put_points.Given as goal

abbrev pub invariant-each : goal.invariant-each
invariant-each l = l.out.items ++ points l.self.cell l.y (l.i + 1) (drop l.i l.marks) ≡ l.initial.out.items ++ points l.self.cell l.y 1 l.marks
