use Rattle.std.proofs.Common.{◌≡◌, List, length, get_or, ap, ◌∙◌, refl, arith}
use Rattle.std.proofs.lemmas.List.Folds.{length-flat_map-take}
use Rattle.lucy_need.specs.declared.need.Need.{Need}
use Rattle.lucy_solve.specs.declared.diffs.Diff.{Diff}
use Rattle.lucy_shape.specs.declared.shape.ClockShape.{ClockShape}
use Rattle.lucy_shape.specs.declared.shape.Shape.{Shape}
use Rattle.lucy_shape.specs.Fitting.{variable_count}
use Rattle.lucy_shape.specs.Inequalities.{need_rows}
use Rattle.lucy_shape.proofs.Adding.{length_take}
use Rattle.lucy_shape.proofs.Bases.{ready_at}
use Rattle.lucy_shape.proofs.Reaches.{need_wide}
use Rattle.lucy_shape.proofs.spreading.left_by_needs.Goals as goal

abbrev rows : Shape → Need → List Diff
rows shape = need_rows shape.period shape.clocks

same : (shape : Shape) (clocks : List ClockShape) (need at : Need) → clocks ≡ shape.clocks → need ≡ at → length (need_rows shape.period clocks need) ≡ length (rows shape at)
same shape clocks need at e f = ap (λ (l : List ClockShape). length (need_rows shape.period l need)) e ∙ ap (λ (n : Need). length (rows shape n)) f

pub rows_of_need-rows-requires : goal.rows_of_need-rows-requires
rows_of_need-rows-requires c =
    let shape = c.args.shape.now in
    let n = ap length c.list-need-items.ensures in
    let t = c.loop-need-test.true in
    need_wide (variable_count shape.clocks) c.list-clocks.result.now c.need-item.result c.requires.shape.laid.few
    (ready_at shape c.args.needs.now.list c.loop-need.need-index (variable_count shape.clocks) c.list-clocks.result.now c.need-item.result c.requires.shape.laid c.requires.words c.requires.shape.carried (omega arith)
    (c.need-item.is ∙ ap (λ l. get_or l c.loop-need.need-index c.need-item.result) c.list-need-items.ensures) refl c.list-clocks.ensures)

pub returns-then-rows-left-clause-none : goal.returns-then-rows-left-clause-none
returns-then-rows-left-clause-none c none =
    let shape = c.args.shape.now in
    let list = c.args.needs.now.list in
    let i = c.loop-need.need-index in
    let len = ap length c.list-need-items.ensures in
    let t = c.loop-need-test.true in
    let is = c.need-item.is ∙ ap (λ l. get_or l i c.need-item.result) c.list-need-items.ensures in
    let size = c.rows_of_need-rows.ensures shape.period ∙ same shape c.list-clocks.result.now c.need-item.result (get_or list i c.need-item.result) c.list-clocks.ensures is in
    let all = length-flat_map-take (rows shape) list i c.need-item.result (omega arith) in
    let kept = c.loop-need.invariant in
    let more = c.if-rows-left.true in
    omega arith

pub loop-need-preserved : goal.loop-need-preserved
loop-need-preserved c =
    let shape = c.args.shape.now in
    let list = c.args.needs.now.list in
    let i = c.loop-need.need-index in
    let len = ap length c.list-need-items.ensures in
    let t = c.loop-need-test.true in
    let is = c.need-item.is ∙ ap (λ l. get_or l i c.need-item.result) c.list-need-items.ensures in
    let size = c.rows_of_need-rows.ensures shape.period ∙ same shape c.list-clocks.result.now c.need-item.result (get_or list i c.need-item.result) c.list-clocks.ensures is in
    let kept = c.loop-need.invariant in
    let fits = c.if-rows-left.false in
    omega (arith, length_take (rows shape) list i c.need-item.result (omega arith))
