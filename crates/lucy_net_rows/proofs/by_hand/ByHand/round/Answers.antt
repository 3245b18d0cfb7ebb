use Rattle.std.proofs.Common.{sym, subst}
use Rattle.lucy_net_rows.specs.ByHand.{AreLinked}
use Rattle.lucy_net_rows.proofs.by_hand.ByHand.round.Goals as goal

pub make_round-requires-clause-linked : goal.make_round-requires-clause-linked
make_round-requires-clause-linked g c κs within = subst (AreLinked c.self.inside.even.parts c.self.inside.odd.parts) (sym c.as_slice-links.ensures.value) c.self.invariant.0

pub invariant_of-self : goal.invariant_of-self
invariant_of-self g c = (subst (AreLinked c.make_round.new.even.parts c.make_round.new.odd.parts) c.as_slice-links.ensures.value c.make_round.ensures, c.self.invariant.1)
