use Rattle.std.proofs.Common.{ℕ, List, ◌++◌, map, ap, sym, ◌∙◌}
use Rattle.std.specs.Prelude.{slice_get}
use Rattle.lucy_tree.specs.View.{program_tree}
use Rattle.lucy_flat.specs.Instances.{words_in}
use Rattle.lucy_diagram.specs.declared.place.DrawnPlace.{DrawnPlace}
use Rattle.lucy_diagram.specs.declared.call.DrawnCall.{DrawnCall}
use Rattle.lucy_diagram.specs.declared.edge.Edge.{Edge}
use Rattle.lucy_diagram.specs.Diagrams.{drawn_places}
use Rattle.lucy_graphviz.specs.Labels.{word_label}
use Rattle.lucy_graphviz.specs.Graphs.{graph_text}
use Rattle.lucy_graphviz.proofs.print.node.put_diagram.Goals as goal

pub put_graph-requires : goal.put_graph-requires
put_graph-requires c = λ i call at. c.requires.fit i call (sym (ap (λ l. slice_get l i) c.as_slice-calls.ensures.value) ∙ at)

pub returns : goal.returns
returns c =
    let d = c.args.diagram.now in
    let a = c.args.accepted.now in
    let text : List (List ℕ) → List DrawnPlace → List DrawnCall → List Edge → List ℕ = λ ls ps cs es. c.args.out.now.items ++ graph_text (program_tree c.args.program.now) c.args.accepted.now c.args.node c.args.found.now ls ps cs es in
    let labels = map word_label (words_in (slice_get a.clocks.items c.args.node)) in
    c.in_ok-put_graph.ensures
    ∙ ap (λ ls. text ls c.as_slice-places.result.now c.as_slice-calls.result.now c.as_slice-edges.result.now) (c.as_slice-labels.ensures.value ∙ c.in_ok-labels.ensures)
    ∙ ap (λ ps. text labels ps c.as_slice-calls.result.now c.as_slice-edges.result.now) (c.as_slice-places.ensures.value ∙ c.requires.places)
    ∙ ap (λ cs. text labels (drawn_places c.args.found.now) cs c.as_slice-edges.result.now) c.as_slice-calls.ensures.value
    ∙ ap (λ es. text labels (drawn_places c.args.found.now) d.calls.items es) c.as_slice-edges.ensures.value
