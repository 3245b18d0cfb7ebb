use Rattle.lucy_picture.proofs.HoldLaws.{puts_behind, puts_more}
use Rattle.lucy_picture.proofs.TextLaws.{extends_more}
use Rattle.lucy_svg.specs.Sheets.{IsLane}
use Rattle.lucy_svg.proofs.print.sheet.Sheet.put_lanes.Goals as goal

pub returns : goal.returns
returns c =
    let P = IsLane c.args.self.now.lanes.cell in
    puts_behind P _ _ _ _ (extends_more _ _ _ c.in_ok-put_ruler.ensures c.in_ok-put_turns.ensures) (puts_more P _ _ _ _ _ c.in_ok-begin.ensures c.in_ok-put_fills.ensures)
