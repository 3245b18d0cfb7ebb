use Rattle.lucy_picture.proofs.TextLaws.{extends_same, extends_more}
use Rattle.lucy_svg.proofs.print.band.Band.put_steps.Goals as goal

pub each-init : goal.each-init
each-init c = extends_same _

pub each-preserved : goal.each-preserved
each-preserved c = extends_more _ _ _ c.each.invariant c.in_ok-put_step.ensures

pub returns : goal.returns
returns c = c.each.invariant
