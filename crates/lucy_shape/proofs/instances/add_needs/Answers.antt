use Rattle.std.proofs.Common.{◌≡◌, List, length, get_or, ap, ◌∙◌, arith}
use Rattle.std.proofs.lemmas.List.Folds.{length-flat_map-take}
use Rattle.lucy_need.specs.declared.need.Need.{Need}
use Rattle.lucy_solve.specs.System.{DifferenceSystem}
use Rattle.lucy_shape.specs.declared.shape.ClockShape.{ClockShape}
use Rattle.lucy_shape.specs.Inequalities.{need_rows}
use Rattle.lucy_shape.proofs.Adding.{step_take}
use Rattle.lucy_shape.proofs.Bases.{ready_at}
use Rattle.lucy_shape.proofs.instances.add_needs.Goals as goal

pub add_need-requires-clause-ready : goal.add_need-requires-clause-ready
add_need-requires-clause-ready c =
    let e = ap (λ (s : DifferenceSystem). s.count) c.loop-need.invariant in
    let n = ap length c.list-need-items.ensures in
    let t = c.loop-need-test.true in
    ready_at c.args.shape.now c.args.needs.now.list c.loop-need.need-index c.loop-need.diffs.count c.list-clocks.result.now c.need-item.result c.requires.shape.laid c.requires.words c.requires.shape.carried (omega arith)
    (c.need-item.is ∙ ap (λ l. get_or l c.loop-need.need-index c.need-item.result) c.list-need-items.ensures) (e ∙ c.requires.count) c.list-clocks.ensures

pub add_need-requires-clause-few : goal.add_need-requires-clause-few
add_need-requires-clause-few c =
    let shape = c.args.shape.now in
    let list = c.args.needs.now.list in
    let i = c.loop-need.need-index in
    let n = ap length c.list-need-items.ensures in
    let t = c.loop-need-test.true in
    let is = c.need-item.is ∙ ap (λ l. get_or l i c.need-item.result) c.list-need-items.ensures in
    let few = length-flat_map-take (need_rows shape.period shape.clocks) list i c.need-item.result (omega arith) in
    let same : length (need_rows shape.period c.list-clocks.result.now c.need-item.result) ≡ length (need_rows shape.period shape.clocks (get_or list i c.need-item.result)) =
    ap (λ (l : List ClockShape). length (need_rows shape.period l c.need-item.result)) c.list-clocks.ensures ∙ ap (λ (need : Need). length (need_rows shape.period shape.clocks need)) is in
    let most = c.requires.few in
    omega arith

pub loop-need-preserved : goal.loop-need-preserved
loop-need-preserved c =
    let shape = c.args.shape.now in
    let list = c.args.needs.now.list in
    let i = c.loop-need.need-index in
    let n = ap length c.list-need-items.ensures in
    let t = c.loop-need-test.true in
    let is = c.need-item.is ∙ ap (λ l. get_or l i c.need-item.result) c.list-need-items.ensures in
    step_take c.args.diffs.now c.loop-need.diffs c.add_need.new.diffs (need_rows shape.period shape.clocks) list i c.need-item.result (need_rows shape.period c.list-clocks.result.now c.need-item.result) (omega arith)
    c.loop-need.invariant c.in_ok-add_need.ensures.ok
    (ap (λ (l : List ClockShape). need_rows shape.period l c.need-item.result) c.list-clocks.ensures ∙ ap (need_rows shape.period shape.clocks) is)
