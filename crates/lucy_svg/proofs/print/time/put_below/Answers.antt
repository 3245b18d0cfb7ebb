use Rattle.lucy_picture.proofs.TextLaws.{extends_by, extends_more}
use Rattle.lucy_svg.proofs.print.time.put_below.Goals as goal

pub returns : goal.returns
returns c = extends_more _ _ _ (extends_by _ _ _ c.in_ok-put.ensures) c.in_ok-put_made_label.ensures
