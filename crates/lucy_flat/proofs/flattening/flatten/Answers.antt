use Rattle.lucy_flat.proofs.OneNet.{accepted, limited}
use Rattle.lucy_flat.proofs.flattening.flatten.Goals as goal

pub returns-clause-accepted : goal.returns-clause-accepted
returns-clause-accepted c = λ net is few. accepted c.args.placed.now.nodes c.args.clocks.now c.made.ensures.proper c.made.result c.made.ensures.ok c.made.ensures.refused net is few

pub returns-clause-limit : goal.returns-clause-limit
returns-clause-limit c = λ l why. limited c.args.placed.now.nodes c.args.clocks.now c.made.ensures.proper c.made.result c.made.ensures.ok c.made.ensures.bits c.made.ensures.refused l why
