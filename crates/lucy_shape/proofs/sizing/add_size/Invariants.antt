use Rattle.std.proofs.Common.{◌≡◌, map}
use Rattle.std.specs.List.{range_with_len}
use Rattle.lucy_shape.proofs.sizing.add_size.Given as goal
use Rattle.lucy_shape.specs.Added.{with_rows}
use Rattle.lucy_shape.specs.Sized.{size_row}

abbrev pub invariant-loop-k : goal.invariant-loop-k
invariant-loop-k l = l.diffs ≡ with_rows l.fn.diffs (map (size_row l.period l.clocks l.from l.to l.size) (range_with_len 1 l.k))
