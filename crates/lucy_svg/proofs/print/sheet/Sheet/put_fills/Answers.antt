use Rattle.std.proofs.Common.{List, subst, arith}
use Rattle.lucy_picture.specs.declared.fill.Fill.{Fill}
use Rattle.lucy_picture.specs.Holding.{Puts}
use Rattle.lucy_picture.proofs.HoldLaws.{puts_same}
use Rattle.lucy_svg.specs.declared.flow.Flow.{Flow}
use Rattle.lucy_svg.specs.Sheets.{both, buffer_lanes, IsLane}
use Rattle.lucy_svg.proofs.SheetLaws.{puts_fill, puts_fills}
use Rattle.lucy_svg.proofs.print.sheet.Sheet.put_fills.Goals as goal

pub each-init : goal.each-init
each-init c = puts_same (IsLane c.args.self.now.lanes.cell) _

pub each-preserved : goal.each-preserved
each-preserved c =
    puts_fill (IsLane c.args.self.now.lanes.cell) buffer_lanes c.as_slice-fills.result.now c.as_slice-flows.result.now c.each.i c.fill_at-fill.result.now c.flow_at-flow.result.now _ _ _ c.fill_at-fill.ensures c.flow_at-flow.ensures c.each.invariant c.in_ok-put_fill.ensures

pub returns : goal.returns
returns c =
    let all = puts_fills (IsLane c.args.self.now.lanes.cell) buffer_lanes c.as_slice-fills.result.now c.as_slice-flows.result.now c.each.i _ _ (omega arith) c.each.invariant in
    subst (λ (fs : List Fill). Puts (IsLane c.args.self.now.lanes.cell) (both buffer_lanes fs c.args.self.now.drawing.now.flows.items) c.args.out.now.items c.each.out.items) c.as_slice-fills.ensures.value
    (subst (λ (fs : List Flow). Puts (IsLane c.args.self.now.lanes.cell) (both buffer_lanes c.as_slice-fills.result.now fs) c.args.out.now.items c.each.out.items) c.as_slice-flows.ensures.value all)
