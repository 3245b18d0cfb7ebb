use Rattle.lucy_picture.proofs.TextLaws.{extends_more}
use Rattle.lucy_svg.proofs.SheetLaws.{on_ok}
use Rattle.lucy_svg.proofs.print.side.Side.put_buffer.Goals as goal

pub returns : goal.returns
returns c =
    on_ok c.put_made_label-2.result _ _ c.put_made_label-2.ensures
    (λ e. extends_more _ _ _ c.in_ok-put_made_label.ensures e)
