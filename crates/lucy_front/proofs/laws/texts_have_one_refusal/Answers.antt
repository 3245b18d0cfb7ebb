use Rattle.lucy_front.proofs.OneAnswer.{one_refusal}
use Rattle.lucy_front.proofs.laws.texts_have_one_refusal.Goals as goal

pub returns : goal.returns
returns c = one_refusal
