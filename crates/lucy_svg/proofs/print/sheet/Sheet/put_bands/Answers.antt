use Rattle.lucy_picture.proofs.TextLaws.{extends_more}
use Rattle.lucy_svg.proofs.SheetLaws.{on_ok}
use Rattle.lucy_svg.proofs.print.sheet.Sheet.put_bands.Goals as goal

pub returns : goal.returns
returns c =
    on_ok c.put_frame.result _ _ c.put_frame.ensures
    (λ e. extends_more _ _ _ c.in_ok-put_stairs.ensures (extends_more _ _ _ c.in_ok-put_stairs-2.ensures (extends_more _ _ _ c.in_ok-put_stairs-3.ensures (extends_more _ _ _ c.in_ok-put_numbers.ensures e))))
