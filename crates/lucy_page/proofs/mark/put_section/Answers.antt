use Rattle.std.proofs.lemmas.Result.{on_ok_weaker}
use Rattle.lucy_page.proofs.PutLaws.{is_section}
use Rattle.lucy_page.proofs.mark.put_section.Goals as goal

pub returns : goal.returns
returns c =
    on_ok_weaker c.put-2.result
    (λ puts. is_section c.args.begin.now c.args.text.now _ _ _ _ _ c.in_ok-put_marked.ensures.all c.in_ok-put.ensures c.in_ok-put_marked.ensures.whole puts)
    c.put-2.ensures
