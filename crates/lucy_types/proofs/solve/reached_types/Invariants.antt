use Rattle.std.proofs.Common.{◌≡◌, Some, map, take}
use Rattle.lucy_types.proofs.solve.reached_types.Given as goal

abbrev pub invariant-each : goal.invariant-each
invariant-each l = map Some l.list.items ≡ take l.mark-index l.mark-items
