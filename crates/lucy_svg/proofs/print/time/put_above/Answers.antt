use Rattle.lucy_picture.proofs.TextLaws.{extends_by, extends_more}
use Rattle.lucy_svg.proofs.print.time.put_above.Goals as goal

pub returns : goal.returns
returns c = extends_more _ _ _ c.in_ok-put_frame.ensures (extends_more _ _ _ (extends_by _ _ _ c.in_ok-put_label.ensures) (extends_more _ _ _ c.in_ok-put_made_label.ensures c.in_ok-put_made.ensures.more))
