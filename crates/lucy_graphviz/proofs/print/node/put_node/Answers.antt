use Rattle.std.proofs.Common.{◌+◌, ◌≡◌, sym, subst, ◌∙◌}
use Rattle.std.proofs.lemmas.Option.{same_Some}
use Rattle.lucy_tree.specs.View.{program_tree}
use Rattle.lucy_place.specs.declared.placed.PlacedNode.{PlacedNode}
use Rattle.lucy_graphviz.specs.Graphs.{PutsNode}
use Rattle.lucy_graphviz.proofs.GraphLaws.{call_fits}
use Rattle.lucy_graphviz.proofs.print.node.put_node.Goals as goal

pub put_diagram-requires-clause-places : goal.put_diagram-requires-clause-places
put_diagram-requires-clause-places c = c.in_ok-diagram.ensures.places c.node-found.result.now c.node-found.ensures.is

pub put_diagram-requires-clause-fit : goal.put_diagram-requires-clause-fit
put_diagram-requires-clause-fit c = λ i call at.
    let found = c.node-found.result.now in
    let calls = c.in_ok-diagram.ensures.calls found c.node-found.ensures.is in
    call_fits c.args.accepted.now.placed.nodes found (i + 1) call (calls.each i call at) c.node-found.ensures.proper.few

pub returns : goal.returns
returns c = λ n e.
    let a = c.args.accepted.now in
    let found = c.node-found.result.now in
    let is = c.node-found.ensures.is in
    let d = c.in_ok-diagram.diagram in
    let same : found ≡ n = same_Some found n (sym is ∙ e) in
    subst (λ (m : PlacedNode). PutsNode (program_tree c.args.program.now) a c.args.node m c.args.out.now.items c.put_diagram.new.out.items) same
    (record {
      calls = d.calls.items;
      edges = d.edges.items;
      are_calls = c.in_ok-diagram.ensures.calls found is;
      are_edges = c.in_ok-diagram.ensures.edges found is;
      puts = c.in_ok-put_diagram.ensures;
    })
