use Rattle.lucy_net_rows.proofs.HandLaws.{ring_joined}
use Rattle.lucy_net_rows.proofs.parity.join.Goals as goal

pub returns : goal.returns
returns c =
    ring_joined c.args.even.now.items c.args.odd.now.items c.give_to.new.even.items c.give_to.new.odd.items c.take_to.new.even.items c.take_to.new.odd.items c.in_ok-giver.giver c.in_ok-taker.taker c.in_ok-one.one c.in_ok-one.other
    c.in_ok-one.ensures.name c.in_ok-giver.ensures c.in_ok-taker.ensures
