use Rattle.std.proofs.Common.{subst, arith}
use Rattle.lucy_host.proofs.Elements.{get_there}
use Rattle.lucy_front.specs.Clocking.{HasNoClocks}
use Rattle.lucy_front.proofs.clocking.node_clocks.Goals as goal

pub returns-in-Err-clause-refused : goal.returns-in-Err-clause-refused
returns-in-Err-clause-refused c =
    let count = c.nodes-nodes.ensures.count in
    let test = c.each-test.true in
    let n = get_there c.args.placed.now.nodes c.each.node (omega arith) in
    record {
      clocks = c.each.clocks.items;
      above = c.each.invariant.0;
      n = n.0;
      stands = n.1;
      refused = subst (λ s. HasNoClocks c.args.options.now c.args.placed.now c.each.node s n.0 c.in-Err.why) c.each.invariant.1 (c.in-Err.ensures.refused n.0 n.1);
    }
