use Rattle.lucy_picture.proofs.HoldLaws.{puts_more}
use Rattle.lucy_svg.specs.Sheets.{IsLaneName}
use Rattle.lucy_svg.proofs.SheetLaws.{on_ok}
use Rattle.lucy_svg.proofs.print.sheet.Sheet.put_names.Goals as goal

pub returns : goal.returns
returns c =
    on_ok c.put_buffer_names.result _ _ c.put_buffer_names.ensures
    (λ e. puts_more (IsLaneName c.args.self.now.side.node.now c.args.self.now.side.told) _ _ _ _ _ c.in_ok-begin.ensures e)
