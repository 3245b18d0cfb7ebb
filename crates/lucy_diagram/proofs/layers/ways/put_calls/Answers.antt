use Rattle.lucy_diagram.specs.Layers.{result_ways}
use Rattle.lucy_diagram.proofs.ListLaws.{flat_more}
use Rattle.lucy_diagram.proofs.layers.ways.put_calls.Goals as goal

pub each-preserved : goal.each-preserved
each-preserved c =
    flat_more result_ways c.args.calls.now c.each.i c.drawn_at.result.now c.each.ways.items _ _ c.drawn_at.ensures c.in_ok-put_results.ensures c.each.invariant
