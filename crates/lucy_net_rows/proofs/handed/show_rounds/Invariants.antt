use Rattle.std.proofs.Common.{◌≡◌}
use Rattle.lucy_net_rows.proofs.handed.show_rounds.Given as goal

-- the net and the operators stay
abbrev pub invariant-rounds : goal.invariant-rounds
invariant-rounds g l = (l.core.net ≡ l.fn.core.net) × (l.core.operators ≡ l.fn.core.operators)
