use Rattle.std.proofs.Common.{◌≡◌, [], refl}
use Rattle.lucy_page.specs.Pages.{program_begin, refusal_begin}
use Rattle.lucy_page.proofs.PutLaws.{are_both, has_both}
use Rattle.lucy_page.proofs.whole.refused_page.Goals as goal

pub returns : goal.returns
returns c =
    has_both refusal_begin c.args.told.now program_begin c.args.text.now (λ sections. sections ≡ []) c.put_head.new.out.items c.put_section-2.new.out.items [] c.put.new.out.items
    (are_both refusal_begin c.args.told.now program_begin c.args.text.now c.put_head.new.out.items c.put_section.new.out.items c.put_section-2.new.out.items
    c.in_ok-put_section.ensures c.in_ok-put_section-2.ensures)
    refl c.in_ok-put.ensures
