use Rattle.std.proofs.Common.{false, sym, subst, arith}
use Rattle.lucy_svg.specs.Ones.{AreOnes}
use Rattle.lucy_svg.proofs.OneLaws.{mark_is, ones_none, ones_more, ones_all}
use Rattle.lucy_svg.proofs.ones.ones.Goals as goal

pub each-init : goal.each-init
each-init c = λ w shown made. subst (λ l. AreOnes w 0 l) (sym c.new-instants.ensures.items) (ones_none w)

pub each-preserved : goal.each-preserved
each-preserved c = λ w shown made.
    ones_more w c.each.i _ _ _ (c.each.invariant w shown made)
    (mark_is c.args.marks.now w shown c.each.i false made (omega arith)) c.in_ok-push_if.ensures

pub returns : goal.returns
returns c = λ w shown made. ones_all c.args.marks.now w shown c.each.i _ made (omega arith) (c.each.invariant w shown made)
