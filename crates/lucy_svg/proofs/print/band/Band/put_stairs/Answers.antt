use Rattle.lucy_picture.proofs.TextLaws.{extends_more}
use Rattle.lucy_svg.proofs.SheetLaws.{on_ok}
use Rattle.lucy_svg.proofs.print.band.Band.put_stairs.Goals as goal

pub returns : goal.returns
returns c =
    on_ok c.put_end.result _ _ c.put_end.ensures
    (λ e. extends_more _ _ _ c.in_ok-put_made.ensures.more (extends_more _ _ _ c.in_ok-put_steps.ensures e))
