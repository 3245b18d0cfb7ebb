use Rattle.std.proofs.Common.{◌≡◌}
use Rattle.lucy_net_rows.proofs.handed.follow.Given as goal

-- the net and the operators stay
abbrev pub invariant-passes : goal.invariant-passes
invariant-passes g l = (l.core.net ≡ l.fn.core.net) × (l.core.operators ≡ l.fn.core.operators)

abbrev pub invariant-actors : goal.invariant-actors
invariant-actors g l = (l.core.net ≡ l.fn.core.net) × (l.core.operators ≡ l.fn.core.operators)
