use Rattle.std.proofs.Common.{None, map, ap, ◌∙◌, refl, arith}
use Rattle.std.specs.Prelude.{fold}
use Rattle.lucy_tree.specs.View.{def_tree, node_tree}
use Rattle.lucy_picture.specs.Forms.{def_forms}
use Rattle.lucy_picture.specs.Seeking.{seek}
use Rattle.lucy_picture.proofs.FormLaws.{form_by}
use Rattle.lucy_picture.proofs.SeekLaws.{seek_found}
use Rattle.lucy_picture.proofs.forms.form_of.Goals as goal

pub returns : goal.returns
returns c =
    let n = node_tree c.args.node.now in
    let skip = c.in_ok-skip.skip in
    let defs = ap (λ ds. def_forms (map def_tree ds)) c.list.ensures in
    form_by n c.args.place skip _ (omega (arith, c.in_ok-checked_sub.ensures, c.in_ok-skip.ensures))
    (seek_found (def_forms n.defs) skip (record { skip = skip; found = None }) _ refl (c.past_defs.ensures ∙ ap (fold seek (record { skip = skip; found = None })) defs))
