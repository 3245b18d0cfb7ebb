use Rattle.std.proofs.lemmas.Result.{IfOk-weaker}
use Rattle.lucy_word.proofs.Results.{goes_out}
use Rattle.lucy_app.proofs.Pairs.{first_refused, second_refused, far_refused}
use Rattle.lucy_app.proofs.order.verdict_of.Goals as goal

pub returns-in_err-first-clause-refused : goal.returns-in_err-first-clause-refused
returns-in_err-first-clause-refused c =
    goes_out _ c.in_err-first.field-0.0 c.from_residual.result c.from_residual.ensures.1 (first_refused c.args.first.now c.args.second.now _ c.in_err-first.ensures.refused)

pub returns-in_err-second-clause-refused : goal.returns-in_err-second-clause-refused
returns-in_err-second-clause-refused c =
    goes_out _ c.in_err-second.field-0.0 c.from_residual-in_err-second.result c.from_residual-in_err-second.ensures.1
    (second_refused c.args.first.now c.args.second.now _ _ c.in_ok-first.ensures.ok c.in_err-second.ensures.refused)

pub returns-clause-ok : goal.returns-clause-ok
returns-clause-ok c =
    IfOk-weaker c.compared.result _ _ (λ v is. (c.in_ok-first.first, c.in_ok-second.second, c.in_ok-first.ensures.ok, c.in_ok-second.ensures.ok, is)) c.compared.ensures.ok

pub returns-clause-refused : goal.returns-clause-refused
returns-clause-refused c =
    far_refused c.args.first.now c.args.second.now _ _ c.compared.result c.in_ok-first.ensures.ok c.in_ok-second.ensures.ok c.compared.ensures.refused
