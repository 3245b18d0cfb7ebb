use Rattle.std.proofs.Common.{◌++◌, ap, ◌∙◌, append_assoc}
use Rattle.lucy_page.specs.Pages.{program_begin, report_begin, page_end, AreSections}
use Rattle.lucy_program.specs.Report.{report}
use Rattle.lucy_page.proofs.PutLaws.{has_both}
use Rattle.lucy_page.proofs.whole.page.Goals as goal

pub returns : goal.returns
returns c =
    let accepted = c.args.accepted.now in
    let sections = c.in_ok-nodes.nodes.items in
    has_both program_begin c.args.text.now report_begin (report accepted.placed.nodes accepted.typed accepted.clocks.items) (AreSections 0 accepted.placed.nodes)
    c.in_ok-out.out.items c.put_texts.new.out.items sections c.put.new.out.items c.in_ok-put_texts.ensures c.in_ok-nodes.ensures
    (c.in_ok-put.ensures
    ∙ ap (λ l. l ++ page_end) (c.in_ok-extend_from_slice.ensures.items ∙ ap (λ l. c.put_texts.new.out.items ++ l) c.deref.ensures.value)
    ∙ append_assoc c.put_texts.new.out.items sections page_end)
