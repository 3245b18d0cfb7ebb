use Rattle.lucy_host.specs.Host.{lent}
use Rattle.lucy_app.proofs.Makes.{untold, unmade, figured, undone}
use Rattle.lucy_app.proofs.making.make.Goals as goal

pub returns-in-Err-clause-ends : goal.returns-in-Err-clause-ends
returns-in-Err-clause-ends g c = untold c.args.words (lent c.args.host.now) _ _ _ _ c.refuse.ensures.told

pub returns-in-Err-accepted-clause-ends : goal.returns-in-Err-accepted-clause-ends
returns-in-Err-accepted-clause-ends g c =
    unmade c.args.words (lent c.args.host.now) c.ops.result.now c.inferring.result c.in-Ok.text.items c.accepted.result c.ops.ensures c.inferring.ensures.is c.in-Ok.ensures c.accepted.ensures.accepting
    c.in-Err-accepted.refusal _ _ _ _ c.in-Err-accepted.is c.refuse-in-Err-accepted.ensures.told

pub returns-in-Ok-summary-clause-ends : goal.returns-in-Ok-summary-clause-ends
returns-in-Ok-summary-clause-ends g c =
    figured c.args.words (lent c.args.host.now) c.ops.result.now c.inferring.result c.in-Ok.text.items c.accepted.result c.ops.ensures c.inferring.ensures.is c.in-Ok.ensures c.accepted.ensures.accepting
    c.in-Ok-accepted.program c.in-Ok-accepted.is _ _ _ _ _ _ c.in-Ok-summary.ensures.ok (rw c.deref.ensures.value at c.print.ensures.prints)

pub returns-in-Err-summary-clause-ends : goal.returns-in-Err-summary-clause-ends
returns-in-Err-summary-clause-ends g c =
    undone c.args.words (lent c.args.host.now) c.ops.result.now c.inferring.result c.in-Ok.text.items c.accepted.result c.ops.ensures c.inferring.ensures.is c.in-Ok.ensures c.accepted.ensures.accepting
    c.in-Ok-accepted.program c.in-Ok-accepted.is c.in-Err-summary.ending _ _ _ _ c.in-Err-summary.ensures.err c.conclude.ensures.told
