use Rattle.lucy_app.proofs.Owed.{owes_one, order_owes_one, show_owes_one}
use Rattle.lucy_app.proofs.laws.one_answer.Goals as goal

pub returns-clause-alike : goal.returns-clause-alike
returns-clause-alike c = owes_one c.one_cut.ensures c.one_horizon.ensures c.one_run.ensures c.one_interpretation.ensures
    c.one_replay.ensures c.one_trace.ensures
    c.one_tightest.ensures

pub returns-clause-order : goal.returns-clause-order
returns-clause-order c given a b is also = order_owes_one given.taken given.stop a b is also

pub returns-clause-show : goal.returns-clause-show
returns-clause-show c file given a b is also = show_owes_one given.stop given.fetched a b is also
