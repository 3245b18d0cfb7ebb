use Rattle.lucy_net_rows.proofs.EchoLaws.{longer_supplied}
use Rattle.lucy_net_rows.proofs.echo.grow.Goals as goal

pub more-requires-clause-supplied : goal.more-requires-clause-supplied
more-requires-clause-supplied c = longer_supplied c.args.ops.now c.args.runner.now.seen c.in_ok-inputs.inputs c.args.instants c.requires.echo c.requires.at c.in_ok-inputs.ensures
