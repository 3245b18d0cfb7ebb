use Rattle.std.proofs.Common.{◌≡◌, ◌≤◌, ◌++◌, length, drop}
use Rattle.lucy_stream.specs.Lists.{kept, kept_past}
use Rattle.lucy_kahn.specs.Outcomes.{most_items}
use Rattle.lucy_kahn.proofs.lists.kept.Given as goal

abbrev pub invariant-loop-i : goal.invariant-loop-i
invariant-loop-i l = (l.made.items ++ kept_past l.word l.i (drop l.i l.list) ≡ kept l.word l.list) × (length l.made.items ≤ most_items)
