use Rattle.lucy_page.proofs.PutLaws.{on_none}
use Rattle.lucy_page.proofs.mark.put_rest.Goals as goal

pub returns-then-at-text-clause-rest : goal.returns-then-at-text-clause-rest
returns-then-at-text-clause-rest c = on_none _ _ _
