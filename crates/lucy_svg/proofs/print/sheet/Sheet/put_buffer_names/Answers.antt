use Rattle.std.proofs.Common.{List, subst, arith}
use Rattle.lucy_picture.specs.declared.fill.Fill.{Fill}
use Rattle.lucy_picture.specs.Holding.{Puts}
use Rattle.lucy_picture.proofs.HoldLaws.{puts_same}
use Rattle.lucy_svg.specs.declared.flow.Flow.{Flow}
use Rattle.lucy_svg.specs.Sheets.{both, buffer_names, IsLaneName}
use Rattle.lucy_svg.proofs.SheetLaws.{puts_fill, puts_fills}
use Rattle.lucy_svg.proofs.print.sheet.Sheet.put_buffer_names.Goals as goal

pub each-init : goal.each-init
each-init c = puts_same (IsLaneName c.args.self.now.side.node.now c.args.self.now.side.told) _

pub each-preserved : goal.each-preserved
each-preserved c =
    puts_fill (IsLaneName c.args.self.now.side.node.now c.args.self.now.side.told) (λ fill flow. buffer_names fill) c.as_slice-fills.result.now c.as_slice-flows.result.now c.each.i c.fill_at-fill.result.now c.flow_at-flow.result.now _ _ _ c.fill_at-fill.ensures c.flow_at-flow.ensures c.each.invariant c.in_ok-put_fill_names.ensures

pub returns : goal.returns
returns c =
    let all = puts_fills (IsLaneName c.args.self.now.side.node.now c.args.self.now.side.told) (λ fill flow. buffer_names fill) c.as_slice-fills.result.now c.as_slice-flows.result.now c.each.i _ _ (omega arith) c.each.invariant in
    subst (λ (fs : List Fill). Puts (IsLaneName c.args.self.now.side.node.now c.args.self.now.side.told) (both (λ fill flow. buffer_names fill) fs c.args.self.now.drawing.now.flows.items) c.args.out.now.items c.each.out.items) c.as_slice-fills.ensures.value
    (subst (λ (fs : List Flow). Puts (IsLaneName c.args.self.now.side.node.now c.args.self.now.side.told) (both (λ fill flow. buffer_names fill) c.as_slice-fills.result.now fs) c.args.out.now.items c.each.out.items) c.as_slice-flows.ensures.value all)
