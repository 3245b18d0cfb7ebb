use Rattle.std.proofs.Common.{◌<◌, length, arith}
use Rattle.lucy_types.proofs.FloodLaws.{queue_most}
use Rattle.lucy_types.proofs.SpreadLaws.{spread_more, may_reach, closed_end}
use Rattle.lucy_types.proofs.flood.spread.Goals as goal

pub each-smaller : goal.each-smaller
each-smaller c =
    let most = queue_most c.args.graph.now c.each.flood c.each.invariant.flood in
    let l : c.each.next < length c.args.graph.now.near.items = omega arith in
    omega arith

pub reach_near-requires-clause-ty : goal.reach_near-requires-clause-ty
reach_near-requires-clause-ty c = λ r e. c.each.invariant.recent c.each.next r c.each.invariant.later e

pub reach_near-requires-clause-may : goal.reach_near-requires-clause-may
reach_near-requires-clause-may c = λ r e.
    may_reach c.args.graph.now c.each.flood c.args.start c.each.next c.args.ty r c.requires.graph c.each.invariant.flood c.each.invariant.closed c.each.invariant.recent c.each.invariant.later
    (c.each.invariant.recent c.each.next r c.each.invariant.later e)

pub each-preserved : goal.each-preserved
each-preserved c =
    spread_more c.args.graph.now c.args.ty c.args.start c.args.flood.now c.each.flood c.reach_near.new.flood c.each.next c.each.invariant (omega arith) c.in_ok-reach_near.ensures

pub returns : goal.returns
returns c = record {
  settled = closed_end c.args.graph.now c.each.flood c.each.next c.each.invariant.flood (omega arith) c.each.invariant.closed;
  grows = c.each.invariant.grows;
}
