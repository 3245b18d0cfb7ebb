use Rattle.lucy_picture.proofs.HoldLaws.{puts_before, puts_behind}
use Rattle.lucy_picture.proofs.TextLaws.{extends_by, extends_more}
use Rattle.lucy_svg.specs.Sheets.{IsLaneName}
use Rattle.lucy_svg.proofs.SheetLaws.{on_ok}
use Rattle.lucy_svg.proofs.print.side.Side.put_name.Goals as goal

pub returns : goal.returns
returns c =
    let P = IsLaneName c.args.self.now.node.now c.args.self.now.told in
    on_ok c.put_word.result _ _ c.put_word.ensures
    (λ e. puts_before P _ _ _ _ (puts_behind P _ _ _ _ c.in_ok-linked.ensures c.in_ok-put_place.ensures) (extends_more _ _ _ (extends_by _ _ _ c.in_ok-put.ensures) e))
