use Rattle.std.proofs.Common.{◌++◌, ap, ◌∙◌}
use Rattle.lucy_tree.specs.View.{program_tree}
use Rattle.lucy_diagram.specs.Labels.{unnamed_text}
use Rattle.lucy_diagram.proofs.TextLaws.{any_form}
use Rattle.lucy_diagram.proofs.text.put_unnamed.Goals as goal

pub returns : goal.returns
returns c =
    let nodes = c.args.placed.now.nodes in
    let n = c.args.found.now in
    let k = c.args.kind.now in
    c.in_ok-put_form.ensures ∙ ap (λ form. c.args.out.now.items ++ unnamed_text nodes n k form) c.form_in-form.ensures
    ∙ ap (λ text. c.args.out.now.items ++ text) (any_form (program_tree c.args.program.now) nodes c.args.node n c.args.place k)
