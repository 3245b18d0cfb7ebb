use Rattle.std.proofs.Common.{◌≡◌, ◌++◌, drop}
use Rattle.lucy_front.specs.Evidence.{cycle_lines}
use Rattle.lucy_front.proofs.evidence.cycle_lines.Given as goal

abbrev pub invariant-each : goal.invariant-each
invariant-each l = l.lines.items ++ cycle_lines l.names l.diffs.list (drop l.diff-index l.cycle) ≡ l.initial.lines.items ++ cycle_lines l.names l.diffs.list l.cycle
