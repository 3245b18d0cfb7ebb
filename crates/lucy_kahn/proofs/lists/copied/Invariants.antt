use Rattle.std.proofs.Common.{◌≡◌, ◌≤◌, length, take}
use Rattle.lucy_kahn.specs.Outcomes.{most_items}
use Rattle.lucy_kahn.proofs.lists.copied.Given as goal

abbrev pub invariant-loop-item : goal.invariant-loop-item
invariant-loop-item l = (l.made.items ≡ take l.item-index l.list) × (length l.made.items ≤ most_items)
