use Rattle.std.proofs.Common.{◌≡◌, ◌≤◌, ◌+◌, ◌-◌, ◌++◌, length}
use Rattle.lucy_stream.specs.Merges.{merge_item, items_past, merged}
use Rattle.lucy_kahn.specs.Outcomes.{most_items}
use Rattle.lucy_kahn.proofs.merging.merged.Given as goal

abbrev pub invariant-loop-passed : goal.invariant-loop-passed
invariant-loop-passed l = (l.made.items ++ items_past (merge_item l.word l.a l.b) l.passed (length l.a + length l.b - l.passed) ≡ merged l.word l.a l.b) × (length l.made.items ≤ most_items)
