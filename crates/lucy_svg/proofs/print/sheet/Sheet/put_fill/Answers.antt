use Rattle.lucy_picture.proofs.HoldLaws.{puts_before, puts_behind}
use Rattle.lucy_picture.proofs.TextLaws.{extends_by}
use Rattle.lucy_svg.specs.Sheets.{IsLane}
use Rattle.lucy_svg.proofs.SheetLaws.{on_ok}
use Rattle.lucy_svg.proofs.print.sheet.Sheet.put_fill.Goals as goal

pub returns : goal.returns
returns c =
    let P = IsLane c.args.self.now.lanes.cell in
    on_ok c.put_bands.result _ _ c.put_bands.ensures
    (λ e. puts_before P _ _ _ _ (puts_behind P _ _ _ _ (extends_by _ _ _ c.in_ok-put_line.ensures) c.in_ok-put_items.ensures) e)
