use Rattle.lucy_net.specs.Words.{net_words}
use Rattle.lucy_net.proofs.OneAnswer.{one_length, one_refusal, never_both}
use Rattle.lucy_net.proofs.one_answer.nets_have_one_answer.Goals as goal

pub returns-clause-one_length : goal.returns-clause-one_length
returns-clause-one_length c = λ net prefix period p q is other. one_length (net_words net) prefix period p q is other

pub returns-clause-one_schedule : goal.returns-clause-one_schedule
returns-clause-one_schedule c = λ net s other is also. one_length (net_words net) s.prefix s.period other.prefix other.period is.allowed.lengths also.allowed.lengths

pub returns-clause-one_refusal : goal.returns-clause-one_refusal
returns-clause-one_refusal c = one_refusal

pub returns-clause-never_both : goal.returns-clause-never_both
returns-clause-never_both c = never_both
