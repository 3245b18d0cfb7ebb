use Rattle.std.proofs.Common.{List, [], ◌∷◌, subst}
use Rattle.std.specs.Prelude.{OnOk}
use Rattle.lucy_picture.specs.Holding.{Puts}
use Rattle.lucy_svg.specs.declared.join.Join.{Join}
use Rattle.lucy_svg.specs.Sheets.{of_items, IsLane}
use Rattle.lucy_svg.proofs.print.sheet.Sheet.put_joins.Goals as goal

pub returns : goal.returns
returns c =
    subst (λ (l : List Join). OnOk c.put_joins.result (Puts (IsLane c.args.self.now.lanes.cell) (of_items l ∷ []) c.args.out.now.items c.put_joins.new.out.items)) c.list-joins.ensures c.put_joins.ensures
