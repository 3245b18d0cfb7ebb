use Rattle.lucy_host.specs.Host.{lent}
use Rattle.lucy_net_rows.specs.Echo.{IsEcho}
use Rattle.lucy_net_rows.proofs.echoed.show_rounds.Given as goal

-- rounds leave the net, its operators, its horizon and its items
abbrev pub invariant-rounds : goal.invariant-rounds
invariant-rounds g l = IsEcho (lent l.host) l.runner.seen
