use Rattle.std.proofs.Common.{◌≡◌, ◌++◌, [], ap, ◌∙◌}
use Rattle.std.specs.Prelude.{codes}
use Rattle.std.specs.Fmt.{decimal}
use Rattle.lucy_tree.specs.View.{program_tree}
use Rattle.lucy_diagram.specs.declared.place.Figure.TheVariants.{CallResult}
use Rattle.lucy_graphviz.specs.Graphs.{box_text}
use Rattle.lucy_graphviz.proofs.GraphLaws.{behind}
use Rattle.lucy_graphviz.proofs.print.calls.put_result.Goals as goal

pub returns : goal.returns
returns c =
    let box = box_text (program_tree c.args.program.now) c.args.accepted.now c.args.node c.args.found.now [] c.args.place CallResult in
    let line = codes "    c" ++ (decimal c.args.number ++ (codes " -> p" ++ (decimal c.args.place ++ codes " [arrowhead=none];\n"))) in
    let text : c.as_bytes.result.now ≡ codes "    p" ++ decimal c.args.place = c.as_bytes.ensures.value ∙ c.in_ok-format.ensures.ok in
    let last : c.as_bytes-2.result.now ≡ line = c.as_bytes-2.ensures.value ∙ c.in_ok-line.ensures.ok in
    behind c.args.out.now.items c.put.new.out.items c.put_box.new.out.items c.put-2.new.out.items (codes "    p") (decimal c.args.place) box line (c.in_ok-put.ensures ∙ ap (λ t. c.args.out.now.items ++ t) text)
    c.in_ok-put_box.ensures (c.in_ok-put-2.ensures ∙ ap (λ t. c.put_box.new.out.items ++ t) last)
