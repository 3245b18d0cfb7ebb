use Rattle.std.proofs.Common.{refl}
use Rattle.lucy_picture.proofs.HoldLaws.{puts_before, puts_behind, puts_part}
use Rattle.lucy_picture.proofs.TextLaws.{extends_by, extends_more}
use Rattle.lucy_svg.specs.Sheets.{of_marks, IsLane}
use Rattle.lucy_svg.proofs.print.lane.Lanes.put_marks.Goals as goal

pub returns : goal.returns
returns c =
    let P = IsLane c.args.self.now.cell in
    let before = extends_more _ _ _ (extends_by _ _ _ c.in_ok-put_line.ensures) c.in_ok-put_made.ensures.more in
    puts_before P _ _ _ _ (puts_behind P _ _ _ _ before (puts_part P (of_marks c.args.marks.now) _ _ _ c.in_ok-put_points.ensures (c.args.y, refl))) (extends_by _ _ _ c.in_ok-put.ensures)
