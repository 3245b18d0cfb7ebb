use Rattle.lucy_front.proofs.OneAnswer.{one_program, never_both}
use Rattle.lucy_front.proofs.laws.texts_have_one_program.Goals as goal

pub returns-clause-one : goal.returns-clause-one
returns-clause-one c = one_program

pub returns-clause-never_both : goal.returns-clause-never_both
returns-clause-never_both c = never_both
