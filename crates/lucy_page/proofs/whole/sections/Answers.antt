use Rattle.std.proofs.Common.{refl, arith}
use Rattle.lucy_page.proofs.PutLaws.{goes_further, goes_all}
use Rattle.lucy_page.proofs.whole.sections.Goals as goal

pub each-preserved : goal.each-preserved
each-preserved c = goes_further c.args.accepted.now.placed.nodes c.each.number _ c.each.out.items c.put_node.new.out.items refl c.each.invariant c.in_ok-put_node.ensures

pub returns : goal.returns
returns c = goes_all c.args.accepted.now.placed.nodes c.each.number c.each.out.items (omega (arith, c.nodes-number-end.ensures.count)) c.each.invariant
