use Rattle.std.proofs.Common.{◌-◌, length, refl, ap, sym, ◌∙◌, arith}
use Rattle.std.specs.Prelude.{slice_index, sum}
use Rattle.std.proofs.lemmas.List.{length-set}
use Rattle.std.proofs.lemmas.Option.{slice_get_read, slice_get_within}
use Rattle.lucy_clock.specs.declared.node_clock.NodeClock.{NodeClock}
use Rattle.lucy_kahn.specs.Sizes.{capped}
use Rattle.lucy_flat.specs.Instances.{sizes_in}
use Rattle.lucy_flat.specs.Counts.{own_sizes, last_of}
use Rattle.lucy_flat.proofs.CountLaws.{counted_more}
use Rattle.lucy_flat.proofs.extent.buffers.Goals as goal

pub returns : goal.returns
returns c =
    let nodes = c.args.placed.now.nodes in
    let end = c.nodes-node-end.ensures.count in
    let past = c.each-test.false in
    let some = c.nodes.ensures.some in
    ap (λ k. slice_index c.add_calls.new.counts (k - 1)) c.nodes.ensures.count ∙ c.add_calls.ensures.totals (own_sizes c.args.clocks.now) (λ i n e. c.each.invariant.1 i n (let within = slice_get_within nodes i n e in omega arith) e) (last_of nodes)
    (let count = c.nodes.ensures.count in omega arith)

pub each-preserved : goal.each-preserved
each-preserved c =
    let clocks = c.args.clocks.now in
    let end = c.nodes-node-end.ensures.count in
    let few = c.nodes-node-end.ensures.few in
    let below = c.each-test.true in
    let count = c.each.invariant.0 in
    let same = c.requires in
    let at = slice_get_read clocks (length clocks) c.each.node c.index-clocks-node.result refl (omega arith) c.index-clocks-node.is in
    let sizes = c.all_sizes.ensures ∙ ap (λ l. capped (sum l)) (c.list.ensures ∙ ap (λ (clock : NodeClock). clock.sizes) (sym c.index-clocks-node.is)) ∙ ap (λ o. capped (sum (sizes_in o))) (sym at) in (
      length-set c.each.counts c.each.node c.all_sizes.result ∙ count,
      counted_more c.args.placed.now.nodes (λ i n. capped (own_sizes clocks i n)) c.each.counts c.each.node c.all_sizes.result (omega arith) (λ n e. sizes) c.each.invariant.1,
    )
