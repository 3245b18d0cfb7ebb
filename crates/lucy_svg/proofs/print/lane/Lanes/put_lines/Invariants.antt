use Rattle.std.proofs.Common.{◌≡◌, ◌++◌, drop}
use Rattle.std.specs.Prelude.{flat_map}
use Rattle.lucy_svg.specs.Sheets.{join_line}
use Rattle.lucy_svg.proofs.print.lane.Lanes.put_lines.Given as goal

abbrev pub invariant-each : goal.invariant-each
invariant-each l =
    let line = join_line l.self.cell l.top l.bottom in
    l.out.items ++ flat_map line (drop l.join-index l.joins) ≡ l.initial.out.items ++ flat_map line l.joins
