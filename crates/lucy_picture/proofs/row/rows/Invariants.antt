use Rattle.std.proofs.Common.{◌≡◌, map, take}
use Rattle.lucy_need.specs.Meeting.{assigned}
use Rattle.lucy_picture.specs.Charts.{chart_row}
use Rattle.lucy_picture.proofs.row.rows.Given as goal

abbrev pub invariant-each : goal.invariant-each
invariant-each l = l.rows.items ≡ map (chart_row (assigned l.words) l.shown) (take l.i l.places)
