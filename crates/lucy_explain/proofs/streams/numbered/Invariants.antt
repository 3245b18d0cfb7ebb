use Rattle.std.proofs.Common.{◌≡◌}
use Rattle.std.specs.List.{range_with_len}
use Rattle.lucy_explain.proofs.streams.numbered.Given as goal

abbrev pub invariant-each : goal.invariant-each
invariant-each l = l.list.items ≡ range_with_len 0 l.clock
