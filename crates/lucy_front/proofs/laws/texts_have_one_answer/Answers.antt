use Rattle.lucy_front.proofs.OneAccepted.{accepted_once, accepted_kept, refused_alike}
use Rattle.lucy_front.proofs.laws.texts_have_one_answer.Goals as goal

pub returns-clause-one : goal.returns-clause-one
returns-clause-one c = accepted_once

pub returns-clause-never_both : goal.returns-clause-never_both
returns-clause-never_both c = accepted_kept

pub returns-clause-one_refusal : goal.returns-clause-one_refusal
returns-clause-one_refusal c = refused_alike
