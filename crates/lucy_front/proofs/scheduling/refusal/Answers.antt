use Rattle.std.proofs.Common.{◌<◌, sym, subst}
use Rattle.std.specs.List.{AllByRecursion}
use Rattle.lucy_net.specs.declared.error.Item.{Item}
use Rattle.lucy_net.specs.Schedules.{RefusesTimetable as RefusesSchedule}
use Rattle.lucy_kahn.specs.Sizes.{all_places}
use Rattle.lucy_front.proofs.CauseLaws.{items_below}
use Rattle.lucy_front.proofs.scheduling.refusal.Goals as goal

pub item_names-requires-clause-there : goal.item_names-requires-clause-there
item_names-requires-clause-there c =
    let nodes = c.args.placed.now.nodes in
    let refuses = subst (RefusesSchedule c.args.net) c.in-Cycle.is c.requires.fault in
    subst (λ items. AllByRecursion (λ (item : Item). item.actor < all_places nodes) items) (sym c.deref.ensures.value)
    (items_below nodes c.requires.net.0 c.args.net c.nodes-main.ensures.proper c.requires.net.1.flat.flat c.in-Cycle.items.items refuses.1.cycle)
