use Rattle.std.proofs.Common.{arith}
use Rattle.lucy_kahn.proofs.horizon.one_horizon.Goals as goal

pub returns : goal.returns
returns c = λ words inputs most s t a b. omega (arith, a.greatest t b.within b.suffice, b.greatest s a.within a.suffice)
