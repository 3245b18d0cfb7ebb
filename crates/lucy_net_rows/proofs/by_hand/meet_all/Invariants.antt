use Rattle.lucy_net_rows.specs.ByHand.{AreLinked}
use Rattle.lucy_net_rows.proofs.by_hand.meet_all.Given as goal

-- meetings leave the rings linked
abbrev pub invariant-loop-link : goal.invariant-loop-link
invariant-loop-link l = AreLinked l.even.parts l.odd.parts l.links
