use Rattle.std.proofs.Common.{◌≡◌}
use Rattle.lucy_net_rows.proofs.cores.run_picked.Given as goal

-- the net and the operators stay
abbrev pub invariant-events : goal.invariant-events
invariant-events g l = (l.core.net ≡ l.fn.core.net) × (l.core.operators ≡ l.fn.core.operators)
