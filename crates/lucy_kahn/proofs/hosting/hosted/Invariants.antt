use Rattle.std.proofs.Common.{◌≡◌, ◌≤◌, length, map}
use Rattle.std.specs.List.{range_with_len}
use Rattle.lucy_host.specs.Host.{lent}
use Rattle.lucy_host.specs.HostValue.{hosted_value}
use Rattle.lucy_host.specs.Operators.{kinds_of}
use Rattle.lucy_stream.specs.Items.{item_at}
use Rattle.lucy_kahn.specs.Outcomes.{most_items}
use Rattle.lucy_kahn.proofs.hosting.hosted.Given as goal

abbrev pub invariant-loop-k : goal.invariant-loop-k
invariant-loop-k g l = (l.made.items ≡ map (λ k. hosted_value (kinds_of (lent l.host)) l.op (item_at l.a k) (item_at l.b k)) (range_with_len 0 l.k)) × (length l.made.items ≤ most_items)
