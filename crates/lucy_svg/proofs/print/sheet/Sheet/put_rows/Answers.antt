use Rattle.std.proofs.Common.{List, map, subst, arith}
use Rattle.lucy_picture.specs.declared.row.Row.{Row}
use Rattle.lucy_picture.specs.Holding.{Puts}
use Rattle.lucy_picture.proofs.HoldLaws.{puts_same, puts_each, puts_all}
use Rattle.lucy_svg.specs.Sheets.{row_lane, IsLane}
use Rattle.lucy_svg.proofs.print.sheet.Sheet.put_rows.Goals as goal

pub each-init : goal.each-init
each-init c = puts_same (IsLane c.args.self.now.lanes.cell) _

pub each-preserved : goal.each-preserved
each-preserved c =
    puts_each (IsLane c.args.self.now.lanes.cell) row_lane c.as_slice-rows.result.now c.each.i c.row_at.result.now _ _ _ c.row_at.ensures c.each.invariant c.in_ok-put_row.ensures

pub returns : goal.returns
returns c =
    subst (λ (rs : List Row). Puts (IsLane c.args.self.now.lanes.cell) (map row_lane rs) c.args.out.now.items c.each.out.items) c.as_slice-rows.ensures.value
    (puts_all (IsLane c.args.self.now.lanes.cell) row_lane c.as_slice-rows.result.now c.each.i _ _ (omega arith) c.each.invariant)
