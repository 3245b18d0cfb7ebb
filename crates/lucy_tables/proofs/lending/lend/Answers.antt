use Rattle.lucy_tables.proofs.WordLaws.{kept_refused, kept_none}
use Rattle.lucy_tables.proofs.LendingLaws.{lent_memory}
use Rattle.lucy_tables.proofs.lending.lend.Goals as goal

pub returns-in_err-front-clause-begins : goal.returns-in_err-front-clause-begins
returns-in_err-front-clause-begins g c = lent_memory _ _ c.from_residual.result c.from_residual.ensures.1

pub returns-in_err-ops-clause-refused : goal.returns-in_err-ops-clause-refused
returns-in_err-ops-clause-refused g c = λ refused. let why = kept_refused _ _ _ _ c.in_ok-front.ensures refused in c.operators.ensures.refused why.0 why.1

pub returns-in_err-ops-clause-none : goal.returns-in_err-ops-clause-none
returns-in_err-ops-clause-none g c = λ rest none. c.operators.ensures.none (kept_none _ _ _ rest c.in_ok-front.ensures none)

pub returns-in-Ok-clause-refused : goal.returns-in-Ok-clause-refused
returns-in-Ok-clause-refused g c = λ refused. let why = kept_refused _ _ _ _ c.in_ok-front.ensures refused in c.operators.ensures.refused why.0 why.1

pub returns-in-Ok-clause-none : goal.returns-in-Ok-clause-none
returns-in-Ok-clause-none g c = λ rest none. c.operators.ensures.none (kept_none _ _ _ rest c.in_ok-front.ensures none)

pub returns-clause-refused : goal.returns-clause-refused
returns-clause-refused g c = λ refused. let why = kept_refused _ _ _ _ c.in_ok-front.ensures refused in c.operators.ensures.refused why.0 why.1

pub returns-clause-none : goal.returns-clause-none
returns-clause-none g c = λ rest none. c.operators.ensures.none (kept_none _ _ _ rest c.in_ok-front.ensures none)
