use Rattle.std.proofs.Common.{◌≡◌, ◌++◌, drop}
use Rattle.lucy_front.specs.Evidence.{walk_lines}
use Rattle.lucy_front.proofs.evidence.walk_lines.Given as goal

abbrev pub invariant-each : goal.invariant-each
invariant-each l = l.lines.items ++ walk_lines l.node l.needs (drop l.need-index l.walk) ≡ l.initial.lines.items ++ walk_lines l.node l.needs l.walk
