use Rattle.std.proofs.Common.{refl}
use Rattle.std.proofs.lemmas.Result.{IfOk-weaker}
use Rattle.lucy_asking.proofs.Shapes.{below}
use Rattle.lucy_asking.proofs.commands.with_command.Goals as goal

pub returns-in-Ok : goal.returns-in-Ok
returns-in-Ok c = IfOk-weaker c.subcommand.result _ _ (λ line adds. below _ _ _ _ _ refl c.in-Ok.ensures adds) c.subcommand.ensures
