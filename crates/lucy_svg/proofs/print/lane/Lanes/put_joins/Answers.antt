use Rattle.std.proofs.Common.{refl}
use Rattle.lucy_picture.proofs.HoldLaws.{puts_before, puts_behind, puts_part}
use Rattle.lucy_picture.proofs.TextLaws.{extends_by}
use Rattle.lucy_svg.specs.Sheets.{of_items, IsLane}
use Rattle.lucy_svg.proofs.print.lane.Lanes.put_joins.Goals as goal

pub returns : goal.returns
returns c =
    let P = IsLane c.args.self.now.cell in
    puts_before P _ _ _ _
    (puts_behind P _ _ _ _ (extends_by _ _ _ c.in_ok-put.ensures) (puts_part P (of_items c.args.joins.now) _ _ _ c.in_ok-put_lines.ensures (c.args.top, c.args.bottom, refl)))
    (extends_by _ _ _ c.in_ok-put-2.ensures)
