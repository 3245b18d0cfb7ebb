use Rattle.std.proofs.Common.{◌≡◌, map}
use Rattle.std.specs.List.{range_with_len}
use Rattle.lucy_shape.proofs.instances.add_adapt.Given as goal
use Rattle.lucy_shape.specs.Added.{with_rows}
use Rattle.lucy_shape.specs.Index.{index_of}
use Rattle.lucy_shape.specs.Rows.{row}

abbrev pub invariant-loop-k : goal.invariant-loop-k
invariant-loop-k l = l.diffs ≡ with_rows l.fn.diffs (map (λ k. row l.period l.first (index_of l.u k) l.second (index_of l.v k)) (range_with_len 1 l.k))
