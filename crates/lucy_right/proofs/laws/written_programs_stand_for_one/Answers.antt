use Rattle.lucy_right.proofs.OneLaws.{one_meaning}
use Rattle.lucy_right.proofs.laws.written_programs_stand_for_one.Goals as goal

pub returns : goal.returns
returns c = one_meaning (record { texts = c.texts_have_one_answer.ensures; handed = c.written_nodes_have_one.ensures.candidate; stand = c.accepted_programs_stand.ensures })
