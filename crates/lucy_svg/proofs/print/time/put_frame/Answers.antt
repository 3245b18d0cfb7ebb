use Rattle.lucy_picture.proofs.TextLaws.{extends_by, extends_more}
use Rattle.lucy_svg.proofs.SheetLaws.{on_ok}
use Rattle.lucy_svg.proofs.print.time.put_frame.Goals as goal

pub returns : goal.returns
returns c =
    on_ok c.put_made-2.result _ _ c.put_made-2.ensures.more
    (λ e. extends_more _ _ _ c.in_ok-put_made.ensures.more (extends_more _ _ _ (extends_by _ _ _ c.in_ok-put_escaped.ensures) e))
