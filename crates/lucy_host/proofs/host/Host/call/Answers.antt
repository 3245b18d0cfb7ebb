use Rattle.std.proofs.Common.{rules}
use Rattle.lucy_host.proofs.Answering.{answer_is}
use Rattle.lucy_host.proofs.host.Host.call.Goals as goal

pub returns : goal.returns
returns g c = answer_is _ _ _ _ _ _ _ c.requires.serves c.requires.known (search rules) (search rules) (search rules)
