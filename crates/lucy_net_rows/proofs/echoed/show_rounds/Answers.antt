use Rattle.lucy_host.specs.Host.{lent}
use Rattle.lucy_net_rows.proofs.EchoLaws.{echo_output}
use Rattle.lucy_net_rows.proofs.echoed.show_rounds.Goals as goal

pub output-requires : goal.output-requires
output-requires g c = echo_output (lent c.args.host.now) c.rounds.runner.seen c.rounds.invariant
