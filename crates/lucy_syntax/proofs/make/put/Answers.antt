use Rattle.std.proofs.Common.{refl}
use Rattle.lucy_syntax.proofs.OnPiles.{pushed}
use Rattle.lucy_syntax.proofs.make.put.Goals as goal

pub returns : goal.returns
returns c = (pushed c.args.expr c.in_ok-push.ensures, refl)
