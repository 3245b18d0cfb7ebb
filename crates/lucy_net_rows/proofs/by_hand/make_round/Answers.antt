use Rattle.lucy_host.specs.Host.{lent}
use Rattle.lucy_host.specs.Operators.{kinds_of}
use Rattle.lucy_net_rows.proofs.HandLaws.{ran_linked}
use Rattle.lucy_net_rows.proofs.by_hand.make_round.Goals as goal

pub meet_all-requires-clause-linked : goal.meet_all-requires-clause-linked
meet_all-requires-clause-linked g c =
    ran_linked (kinds_of (lent c.args.host.now)) c.args.even.now.parts c.args.odd.now.parts _ _ c.args.links.now c.ends_are_kept.ensures.runs c.ends_are_kept.ensures.rings
    c.advance-of_even.ensures.turned.run c.advance-of_odd.ensures.turned.run c.requires.linked
