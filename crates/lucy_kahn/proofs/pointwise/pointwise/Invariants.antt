use Rattle.std.proofs.Common.{◌≡◌, ◌≤◌, length, map}
use Rattle.std.specs.List.{range_with_len}
use Rattle.lucy_host.specs.OpValue.{op_value}
use Rattle.lucy_stream.specs.Items.{item_at}
use Rattle.lucy_kahn.specs.Outcomes.{most_items}
use Rattle.lucy_kahn.proofs.pointwise.pointwise.Given as goal

abbrev pub invariant-loop-k : goal.invariant-loop-k
invariant-loop-k l = (l.made.items ≡ map (λ k. op_value l.fn.op (item_at l.a k) (item_at l.b k) (item_at l.c k)) (range_with_len 0 l.k)) × (length l.made.items ≤ most_items)
