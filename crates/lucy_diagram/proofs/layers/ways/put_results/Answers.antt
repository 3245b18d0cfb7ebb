use Rattle.std.proofs.Common.{sym, append-nil, arith}
use Rattle.lucy_diagram.specs.Layers.{result_way}
use Rattle.lucy_diagram.proofs.ListLaws.{mapped_more, mapped_end}
use Rattle.lucy_diagram.proofs.layers.ways.put_results.Goals as goal

pub each-init : goal.each-init
each-init c = record { ways = sym (append-nil c.args.ways.now.items); near = omega arith }

pub each-preserved : goal.each-preserved
each-preserved c = record {
  ways = mapped_more (result_way c.args.call.now) c.each.number c.args.ways.now.items c.each.ways.items _ c.result_way.result (omega arith) c.each.invariant.ways c.in_ok-push.ensures.items c.result_way.ensures;
  near = omega arith;
}

pub returns : goal.returns
returns c = mapped_end (result_way c.args.call.now) c.each.number c.args.call.now.results c.args.ways.now.items _ (omega arith) c.each.invariant.near c.each.invariant.ways
