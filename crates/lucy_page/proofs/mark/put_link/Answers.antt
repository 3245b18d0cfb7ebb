use Rattle.std.proofs.lemmas.Result.{on_ok_weaker}
use Rattle.lucy_page.proofs.ReadLaws.{reads_link}
use Rattle.lucy_page.proofs.mark.put_link.Goals as goal

pub returns : goal.returns
returns c = on_ok_weaker c.put_value.result (λ puts. record { html = _; puts = puts; reads = reads_link c.args.place.now }) c.put_value.ensures
