use Rattle.lucy_kahn.proofs.OwnLaws.{at_is}
use Rattle.lucy_kahn.proofs.own.read.Goals as goal

pub returns : goal.returns
returns c = at_is c.args.own.now c.args.place c.at.result.now c.at.ensures
