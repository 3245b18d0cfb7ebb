use Rattle.std.proofs.Common.{◌≡◌, ◌++◌, ap, ◌∙◌}
use Rattle.std.specs.Prelude.{codes}
use Rattle.std.specs.Fmt.{decimal}
use Rattle.lucy_graphviz.specs.Graphs.{label_text, label_at}
use Rattle.lucy_graphviz.proofs.GraphLaws.{framed}
use Rattle.lucy_graphviz.proofs.print.calls.put_frame.Goals as goal

pub returns : goal.returns
returns c =
    let call = c.args.call.now in
    let text : c.as_bytes.result.now ≡ codes "  subgraph cluster_" ++ (decimal call.number ++ codes " {\n    ") = c.as_bytes.ensures.value ∙ c.in_ok-begin.ensures.ok in
    framed c.args.out.now.items c.put.new.out.items c.put_label.new.out.items c.put-2.new.out.items (codes "  subgraph cluster_") (decimal call.number) (codes " {\n    ")
    (label_text (codes "at " ++ label_at c.args.labels.now call.base)) (codes ";\n") (c.in_ok-put.ensures ∙ ap (λ t. c.args.out.now.items ++ t) text)
    (c.in_ok-put_label.ensures ∙ ap (λ l. c.put.new.out.items ++ label_text l) (c.deref.ensures.value ∙ c.in_ok-label.ensures)) c.in_ok-put-2.ensures
