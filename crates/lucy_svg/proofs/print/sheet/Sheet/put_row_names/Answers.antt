use Rattle.std.proofs.Common.{List, map, subst, arith}
use Rattle.lucy_picture.specs.declared.row.Row.{Row}
use Rattle.lucy_picture.specs.Holding.{Puts}
use Rattle.lucy_picture.proofs.HoldLaws.{puts_same, puts_each, puts_all}
use Rattle.lucy_svg.specs.Sheets.{row_name, IsLaneName}
use Rattle.lucy_svg.proofs.print.sheet.Sheet.put_row_names.Goals as goal

pub each-init : goal.each-init
each-init c = puts_same (IsLaneName c.args.self.now.side.node.now c.args.self.now.side.told) _

pub each-preserved : goal.each-preserved
each-preserved c =
    puts_each (IsLaneName c.args.self.now.side.node.now c.args.self.now.side.told) row_name c.as_slice-rows.result.now c.each.i c.row_at.result.now _ _ _ c.row_at.ensures c.each.invariant c.in_ok-put_name.ensures

pub returns : goal.returns
returns c =
    subst (λ (rs : List Row). Puts (IsLaneName c.args.self.now.side.node.now c.args.self.now.side.told) (map row_name rs) c.args.out.now.items c.each.out.items) c.as_slice-rows.ensures.value
    (puts_all (IsLaneName c.args.self.now.side.node.now c.args.self.now.side.told) row_name c.as_slice-rows.result.now c.each.i _ _ (omega arith) c.each.invariant)
