use Rattle.lucy_net_rows.proofs.HandLaws.{even_giver, odd_giver}
use Rattle.lucy_net_rows.proofs.parity.give_to.Goals as goal

pub returns-in_ok-place : goal.returns-in_ok-place
returns-in_ok-place c = even_giver c.args.even.now.items c.args.odd.now.items _ c.in_ok-place.place c.args.giver c.requires.begun c.in_ok-place.ensures

pub returns-in_ok-place-2 : goal.returns-in_ok-place-2
returns-in_ok-place-2 c = odd_giver c.args.even.now.items c.args.odd.now.items _ c.in_ok-place-2.place c.args.giver c.requires.begun c.in_ok-place-2.ensures
