use Rattle.std.proofs.Common.{List, Bool, [], ◌∷◌, subst}
use Rattle.std.specs.Prelude.{OnOk}
use Rattle.lucy_picture.specs.Holding.{Puts}
use Rattle.lucy_svg.specs.Sheets.{of_marks, IsLane}
use Rattle.lucy_svg.proofs.print.sheet.Sheet.put_row.Goals as goal

pub returns : goal.returns
returns c =
    subst (λ (l : List Bool). OnOk c.put_marks.result (Puts (IsLane c.args.self.now.lanes.cell) (of_marks l ∷ []) c.args.out.now.items c.put_marks.new.out.items)) c.list-marks.ensures c.put_marks.ensures
