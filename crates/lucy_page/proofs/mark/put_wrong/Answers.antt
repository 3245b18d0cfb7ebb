use Rattle.std.proofs.lemmas.Result.{on_ok_weaker}
use Rattle.lucy_page.proofs.ReadLaws.{reads_mark}
use Rattle.lucy_page.proofs.mark.put_wrong.Goals as goal

pub returns : goal.returns
returns c = on_ok_weaker c.put.result (λ puts. record { html = _; puts = puts; reads = reads_mark }) c.put.ensures
