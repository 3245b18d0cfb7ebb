use Rattle.std.proofs.lemmas.Result.{on_ok_weaker}
use Rattle.lucy_page.proofs.PutLaws.{on_text}
use Rattle.lucy_page.proofs.mark.put_part.Goals as goal

pub returns : goal.returns
returns c = on_ok_weaker c.put_escaped.result (λ puts. on_text _ _ _ _ _ c.requires.order puts) c.put_escaped.ensures
