use Rattle.lucy_net_rows.proofs.ReadyLaws.{one_more, first_list}
use Rattle.lucy_net_rows.proofs.ready.one_input.Goals as goal

pub items-init : goal.items-init
items-init c = first_list c.new-inputs.result c.add_list.new.self c.new-inputs.ensures c.in_ok-add_list.ensures.ok

pub items-preserved : goal.items-preserved
items-preserved c = one_more c.items.inputs c.push.new.self _ c.items.item-index c.items.invariant c.in_ok-push.ensures.ok
