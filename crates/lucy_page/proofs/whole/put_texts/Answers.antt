use Rattle.std.proofs.Common.{ℕ, List, subst, ◌∙◌}
use Rattle.lucy_program.specs.Report.{report}
use Rattle.lucy_page.specs.Pages.{program_begin, report_begin, PutsSection}
use Rattle.lucy_page.proofs.PutLaws.{are_both}
use Rattle.lucy_page.proofs.whole.put_texts.Goals as goal

pub returns : goal.returns
returns c =
    let a = c.args.accepted.now in
    let told : List ℕ = report a.placed.nodes a.typed a.clocks.items in
    let between = c.put_section.new.out.items in
    let new = c.put_section-2.new.out.items in
    are_both program_begin c.args.text.now report_begin told c.args.out.now.items between new c.in_ok-put_section.ensures
    (subst (λ t. PutsSection report_begin t between new) (c.deref-3.ensures.value ∙ c.in_ok-told.ensures) c.in_ok-put_section-2.ensures)
