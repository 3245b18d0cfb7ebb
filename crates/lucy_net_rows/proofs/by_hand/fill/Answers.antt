use Rattle.lucy_net_rows.proofs.HandLaws.{usable_all}
use Rattle.lucy_net_rows.proofs.by_hand.fill.Goals as goal

pub first_parts-requires-clause-usable : goal.first_parts-requires-clause-usable
first_parts-requires-clause-usable c = usable_all c.args.net.now c.list.result.now (λ a actor e. c.proper_nets_are_plugged.ensures.usable c.args.net.now a actor c.requires.proper e) c.list.ensures
