use Rattle.std.proofs.Common.{◌++◌, ap, ◌∙◌}
use Rattle.lucy_word.proofs.Lists.{three}
use Rattle.lucy_svg.specs.Labels.{label_begin}
use Rattle.lucy_svg.proofs.SheetLaws.{on_ok}
use Rattle.lucy_svg.proofs.print.ink.put_element.Goals as goal

pub returns : goal.returns
returns c =
    let font = c.args.font.now in
    on_ok c.put.result _ _ c.put.ensures
    (λ e. three c.args.out.now.items c.put_begin.new.out.items c.put_front.new.out.items c.put.new.out.items _ _ _
    (c.in_ok-put_begin.ensures ∙ ap (λ w. c.args.out.now.items ++ label_begin font c.args.at.0 c.args.at.1 w) c.width-wide.ensures) c.in_ok-put_front.ensures e)
