use Rattle.std.proofs.lemmas.Result.{IfOk-weaker}
use Rattle.lucy_page.proofs.PutLaws.{on_none, on_more}
use Rattle.lucy_page.proofs.mark.put_marked.Goals as goal

pub each-init : goal.each-init
each-init c = on_none _ _ _

pub each-preserved : goal.each-preserved
each-preserved c = on_more _ _ _ _ _ _ _ c.each.invariant c.in_ok-at.ensures

pub returns-clause-whole : goal.returns-clause-whole
returns-clause-whole c = IfOk-weaker c.put_rest.result _ _ (λ to h. on_more _ _ _ _ _ _ _ c.each.invariant h) c.put_rest.ensures.rest
