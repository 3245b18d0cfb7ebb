use Rattle.std.proofs.Common.{arith}
use Rattle.lucy_explain.proofs.ChainLaws.{chain_more, chain_ends}
use Rattle.lucy_explain.proofs.chain.confirms.Goals as goal

pub each-preserved : goal.each-preserved
each-preserved c =
    let s = c.in-Some.ensures in
    chain_more c.args.list.now c.args.chain.now c.each.position-index c.each.end.variable c.in-Some.next.variable c.each.end.later c.in-Some.next.later (omega arith)
    c.each.invariant s.there s.starts s.ends s.later

pub returns : goal.returns
returns c = λ yes.
    chain_ends c.args.list.now c.args.chain.now c.each.position-index c.each.end.variable c.args.wanted.variable c.each.end.later c.args.wanted.later (omega arith)
    c.each.invariant (c.is_end.ensures.variable yes) (c.is_end.ensures.later yes)
