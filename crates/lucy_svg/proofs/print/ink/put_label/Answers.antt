use Rattle.std.proofs.Common.{◌≡◌, ◌++◌, false, length, nat_eq, [], ap, sym, ◌∙◌, arith}
use Rattle.std.specs.Prelude.{if◌then◌else◌}
use Rattle.lucy_svg.specs.Labels.{element_text}
use Rattle.lucy_svg.proofs.SheetLaws.{other_number}
use Rattle.lucy_svg.proofs.print.ink.put_label.Goals as goal

pub returns : goal.returns
returns c =
    let text = c.args.text.now in
    let some : nat_eq (length text) 0 ≡ false = other_number (length text) 0 (λ e. absurd (omega (arith, e))) in
    c.in_ok-put_element.ensures ∙ ap (λ t. c.args.out.now.items ++ (if t then [] else element_text c.args.font.now c.args.at.0 c.args.at.1 text)) (sym some)
