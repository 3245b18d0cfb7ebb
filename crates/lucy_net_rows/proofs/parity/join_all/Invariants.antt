use Rattle.lucy_net_rows.specs.ByHand.{AreJoined}
use Rattle.lucy_net_rows.proofs.parity.join_all.Given as goal

-- the rings so far are joined
abbrev pub invariant-loop-spec : goal.invariant-loop-spec
invariant-loop-spec l = AreJoined l.even.items l.odd.items l.links.items
