use Rattle.lucy_picture.proofs.TextLaws.{extends_by, extends_more}
use Rattle.lucy_picture.proofs.print.columns.Columns.put_ruler.Goals as goal

pub each-init : goal.each-init
each-init c = extends_by _ _ _ c.in_ok-put_blanks.ensures

pub each-preserved : goal.each-preserved
each-preserved c = extends_more _ _ _ c.each.invariant c.in_ok-written.ensures

pub returns : goal.returns
returns c = extends_more _ _ _ c.each.invariant (extends_by _ _ _ c.in_ok-put.ensures)
