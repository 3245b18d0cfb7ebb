use Rattle.std.proofs.Common.{◌≡◌, map}
use Rattle.std.specs.List.{range_with_len}
use Rattle.lucy_svg.specs.Ones.{join_at}
use Rattle.lucy_svg.proofs.join.zipped.Given as goal

abbrev pub invariant-each : goal.invariant-each
invariant-each l = l.joins.items ≡ map (join_at l.written l.read) (range_with_len 0 l.i)
