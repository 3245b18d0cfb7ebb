use Rattle.lucy_page.proofs.PutLaws.{on_none, on_tag, on_more}
use Rattle.lucy_page.proofs.mark.put_mark.Goals as goal

pub returns-then-mark-at : goal.returns-then-mark-at
returns-then-mark-at c = on_none _ _ _

pub returns : goal.returns
returns c =
    on_more _ _ _ _ _ _ _ c.in_ok-put_part.ensures
    (on_more _ _ _ _ _ _ _ (on_tag _ _ _ _ c.in_ok-put_begin.ensures) (on_more _ _ _ _ _ _ _ c.in_ok-put_part-2.ensures (on_tag _ _ _ _ c.in_ok-put_end.ensures)))
