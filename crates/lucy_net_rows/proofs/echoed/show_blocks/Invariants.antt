use Rattle.std.proofs.Common.{◌≡◌, ◌+◌}
use Rattle.lucy_host.specs.Host.{lent}
use Rattle.lucy_core.specs.Seen.{IsOver}
use Rattle.lucy_net_rows.specs.Echo.{IsEcho}
use Rattle.lucy_net_rows.proofs.echoed.show_blocks.Given as goal

-- the items so far came, and all of them are put out
abbrev pub invariant-later : goal.invariant-later
invariant-later g l = record { echo : IsEcho (lent l.host) l.runner.seen; over : IsOver l.runner.seen; at : l.runner.seen.instants ≡ l.instants; came : l.instants ≡ l.fn.came + l.item-index }
