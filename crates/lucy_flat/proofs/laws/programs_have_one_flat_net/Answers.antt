use Rattle.lucy_flat.proofs.OneNet.{one_net, one_limit, never_both}
use Rattle.lucy_flat.proofs.laws.programs_have_one_flat_net.Goals as goal

pub returns-clause-one_net : goal.returns-clause-one_net
returns-clause-one_net c = λ nodes clocks net other proper is also. one_net nodes clocks proper net other is also

pub returns-clause-one_limit : goal.returns-clause-one_limit
returns-clause-one_limit c = λ nodes clocks l other why also. one_limit nodes clocks l other why also

pub returns-clause-never_both : goal.returns-clause-never_both
returns-clause-never_both c = λ nodes clocks net l proper is few why. never_both nodes clocks net l proper is few why
