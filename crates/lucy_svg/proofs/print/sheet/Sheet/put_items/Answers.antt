use Rattle.lucy_picture.proofs.HoldLaws.{puts_more}
use Rattle.lucy_svg.specs.Sheets.{IsLane}
use Rattle.lucy_svg.proofs.SheetLaws.{on_ok}
use Rattle.lucy_svg.proofs.print.sheet.Sheet.put_items.Goals as goal

pub returns : goal.returns
returns c =
    let P = IsLane c.args.self.now.lanes.cell in
    on_ok c.put_joins.result _ _ c.put_joins.ensures
    (λ e. puts_more P _ _ _ _ _ (puts_more P _ _ _ _ _ c.in_ok-put_written.ensures c.in_ok-put_read.ensures) e)
