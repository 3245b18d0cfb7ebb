use Rattle.std.proofs.Common.{◌++◌, ap, ◌∙◌}
use Rattle.std.specs.Fmt.{decimal}
use Rattle.lucy_program.proofs.ReportLaws.{five_new}
use Rattle.lucy_front.proofs.texts.unwritten_line.Goals as goal

pub returns : goal.returns
returns c =
    five_new _ c.args.node.now.name.text _ (decimal c.args.span.from) _ c.new-line.result.items c.bytes.new.out.items c.bytes-3.new.out.items c.bytes-4.new.out.items c.number.new.out.items c.bytes-5.new.out.items
    c.new-line.ensures.items c.in_ok-bytes.ensures (c.in_ok-bytes-2.ensures ∙ ap (λ x. c.bytes.new.out.items ++ x) c.bytes-2.ensures) c.in_ok-bytes-3.ensures
    (c.in_ok-number.ensures ∙ ap (λ k. c.bytes-4.new.out.items ++ decimal k) c.from.ensures) c.in_ok-bytes-4.ensures
