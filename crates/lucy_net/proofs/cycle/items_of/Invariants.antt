use Rattle.std.proofs.Common.{◌≡◌, map, take}
use Rattle.lucy_net.specs.Faults.{item_of, item_now}
use Rattle.lucy_net.proofs.cycle.items_of.Given as goal

abbrev pub invariant-loop-wait : goal.invariant-loop-wait
invariant-loop-wait l = map item_of l.items.items ≡ map (λ wait. item_now l.net l.instant wait.actor) (take l.wait-index l.waits)
