use Rattle.std.proofs.Common.{◌≡◌, ◌-◌, ◌++◌, map}
use Rattle.std.specs.List.{range_with_len}
use Rattle.lucy_front.proofs.LineLaws.{position_name}
use Rattle.lucy_front.proofs.evidence.put_positions.Given as goal

abbrev pub invariant-each : goal.invariant-each
invariant-each l = l.names.items ≡ l.initial.names.items ++ map (position_name l.clock) (range_with_len 1 (l.position - 1))
