use Rattle.std.proofs.Common.{◌++◌, ap, ◌∙◌}
use Rattle.lucy_front.proofs.LineLaws.{place_lines}
use Rattle.lucy_program.proofs.ReportLaws.{four_new}
use Rattle.lucy_front.proofs.texts.path_lines.Goals as goal

pub returns : goal.returns
returns c =
    four_new _ c.args.node.now.name.text _ (place_lines _) c.new-lines.result.items c.bytes.new.out.items c.bytes-3.new.out.items c.bytes-4.new.out.items c.place_lines.new.lines.items c.new-lines.ensures.items c.in_ok-bytes.ensures
    (c.in_ok-bytes-2.ensures ∙ ap (λ x. c.bytes.new.out.items ++ x) c.bytes-2.ensures) c.in_ok-bytes-3.ensures
    (c.in_ok-place_lines.ensures ∙ ap (λ x. c.bytes-4.new.out.items ++ place_lines x) (c.deref.ensures.value ∙ c.in_ok-place_names.ensures))
