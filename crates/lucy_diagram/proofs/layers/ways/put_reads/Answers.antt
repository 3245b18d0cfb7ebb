use Rattle.lucy_diagram.specs.Layers.{read_ways}
use Rattle.lucy_diagram.proofs.ListLaws.{flat_more}
use Rattle.lucy_diagram.proofs.layers.ways.put_reads.Goals as goal

pub each-preserved : goal.each-preserved
each-preserved c =
    flat_more read_ways c.args.edges.now c.each.i c.edge_at.result.now c.each.ways.items _ _ c.edge_at.ensures c.in_ok-put_read.ensures c.each.invariant
